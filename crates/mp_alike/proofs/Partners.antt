-- A post is told its partner.
use Rattle.std.specs.Prelude.{ℕ, zero, suc, ◌≡◌, ◌<◌, ◌≤◌, List, [], ◌∷◌, length, Some}
use Rattle.std.specs.List.{slice_set}
use Rattle.std.proofs.Common.{refl, ap, arith, slice_index_or}
use Rattle.mp_match.specs.Pairs.{partner_set}
use Rattle.mp_match.specs.declared.posts.Line.{Line}

pub set_is : (lines : List Line) (q k : ℕ) (d : Line) → q < length lines
    → slice_set lines q (record { post = (slice_index_or lines q d).post; partner = Some k }) ≡ partner_set lines q k
set_is [] q k d within = absurd (let w = within in omega (arith, w))
set_is (line ∷ lines) zero k d within = refl
set_is (line ∷ lines) (suc q) k d within =
    ap (λ l. line ∷ l) (set_is lines q k d (let w = within in omega (arith, w)))

pub past_is : (lines : List Line) (q k : ℕ) → length lines ≤ q → partner_set lines q k ≡ lines
past_is [] q k past = refl
past_is (line ∷ lines) zero k past = absurd (let p = past in omega (arith, p))
past_is (line ∷ lines) (suc q) k past = ap (λ l. line ∷ l) (past_is lines q k (let p = past in omega (arith, p)))

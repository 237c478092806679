-- A post is told its partner.
use Rattle.std.specs.Prelude.{ℕ, zero, suc, ◌≡◌, ◌<◌, ◌≤◌, List, [], ◌∷◌, length, Some}
use Rattle.std.specs.List.{slice_set}
use Rattle.std.proofs.Common.{refl, ap, arith, slice_index_or}
use Rattle.mp_match.specs.Pairs.{partner_set}
use Rattle.mp_match.specs.declared.posts.Line.{Line}

pub set_is : (ms : List Line) (q k : ℕ) (d : Line) → q < length ms
    → slice_set ms q (record { post = (slice_index_or ms q d).post; partner = Some k }) ≡ partner_set ms q k
set_is [] q k d within = absurd (let w = within in omega (arith, w))
set_is (m ∷ ms) zero k d within = refl
set_is (m ∷ ms) (suc q) k d within = ap (λ l. m ∷ l) (set_is ms q k d (let w = within in omega (arith, w)))

pub past_is : (ms : List Line) (q k : ℕ) → length ms ≤ q → partner_set ms q k ≡ ms
past_is [] q k past = refl
past_is (m ∷ ms) zero k past = absurd (let p = past in omega (arith, p))
past_is (m ∷ ms) (suc q) k past = ap (λ l. m ∷ l) (past_is ms q k (let p = past in omega (arith, p)))

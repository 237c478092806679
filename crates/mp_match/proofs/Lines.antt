-- A line of the posts after one more post.
use Rattle.std.specs.Prelude.{ℕ, zero, suc, ◌+◌, ◌≡◌, List, [], ◌∷◌, ◌++◌, length, Option, Some, None}
use Rattle.std.specs.List.{slice_get}
use Rattle.std.proofs.Common.{refl, sym, ap, ◌∙◌, subst, arith}
use Rattle.std.proofs.lemmas.Bool.{cases_eq}
use mathlib.Core.Logic.{inl, inr}
use Rattle.mp_match.specs.declared.posts.Post.{Post}
use Rattle.mp_match.specs.declared.posts.Line.{Line}
use Rattle.mp_match.specs.Pairs.{partner_set, partners_told, partner_for, add}
use Rattle.mp_match.proofs.Places.{get_last, get_front, get_snoc}

abbrev pub given : Line → ℕ → Line
given m k = record { post = m.post; partner = Some k }

pub set_length : (ms : List Line) (q k : ℕ) → length (partner_set ms q k) ≡ length ms
set_length [] q k = refl
set_length (m ∷ ms) zero k = refl
set_length (m ∷ ms) (suc q) k = ap suc (set_length ms q k)

pub told_length : (ms : List Line) (o : Option ℕ) → length (partners_told ms o) ≡ length ms
told_length ms None = refl
told_length ms (Some q) = set_length ms q (length ms)

pub set_same : (ms : List Line) (q k : ℕ) (m : Line) → slice_get ms q ≡ Some m
    → slice_get (partner_set ms q k) q ≡ Some (given m k)
set_same [] q k m h = absurd (cc)
set_same (x ∷ ms) zero k m h = (let e : x ≡ m = (cc) in ap (λ (y : Line). Some (given y k)) e)
set_same (x ∷ ms) (suc q) k m h = set_same ms q k m h

pub set_other : (ms : List Line) (q k i : ℕ) → (q ≡ i → ⊥) → slice_get (partner_set ms q k) i ≡ slice_get ms i
set_other [] q k i h = refl
set_other (x ∷ ms) zero k zero h = absurd (h refl)
set_other (x ∷ ms) zero k (suc i) h = refl
set_other (x ∷ ms) (suc q) k zero h = refl
set_other (x ∷ ms) (suc q) k (suc i) h = set_other ms q k i (λ e. h (ap suc e))

pub set_back : (ms : List Line) (q k : ℕ) (m : Line) → slice_get (partner_set ms q k) q ≡ Some m
    → (x : Line) × (slice_get ms q ≡ Some x) × (m ≡ given x k)
set_back [] q k m h = absurd (cc)
set_back (x ∷ ms) zero k m h = (x, refl, (cc))
set_back (x ∷ ms) (suc q) k m h = set_back ms q k m h

-- a line after one more post is the new one, or an old one, or the one that has the new post as its partner
pub data Look (ms : List Line) (p : Post) (i : ℕ) (m : Line) : Type 0 where
  is_new : i ≡ length ms → m ≡ record { post = p; partner = partner_for ms p } → Look ms p i m
  is_old : slice_get ms i ≡ Some m → Look ms p i m
  is_given : (x : Line) → slice_get ms i ≡ Some x → partner_for ms p ≡ Some i → m ≡ given x (length ms) → Look ms p i m

pub look : (ms : List Line) (p : Post) (i : ℕ) (m : Line) → slice_get (add ms p) i ≡ Some m → Look ms p i m
look ms p i m h = go (partner_for ms p) refl h
  where
    go : (o : Option ℕ) → partner_for ms p ≡ o
        → slice_get (partners_told ms o ++ record { post = p; partner = o } ∷ []) i ≡ Some m → Look ms p i m
    go o e h = elim (get_snoc (partners_told ms o) (record { post = p; partner = o }) i m h) [
      | inl c ↦ is_new (c.0 ∙ told_length ms o)
          (c.1 ∙ ap (λ (x : Option ℕ). (let y : Line = record { post = p; partner = x } in y)) (sym e))
      | inr c ↦ old o e c
    ]
      where
        old : (o : Option ℕ) → partner_for ms p ≡ o → slice_get (partners_told ms o) i ≡ Some m → Look ms p i m
        old None e c = is_old c
        old (Some q) e c = elim (cases_eq q i) [
          | inl same ↦
              let b = set_back ms i (length ms) m
              (subst (λ j. slice_get (partner_set ms j (length ms)) i ≡ Some m) same c) in
              is_given b.0 b.1 (e ∙ ap (λ j. Some j) same) b.2
          | inr other ↦ is_old (sym (set_other ms q (length ms) i other) ∙ c)
        ]

pub add_new : (ms : List Line) (p : Post)
    → slice_get (add ms p) (length ms) ≡ Some (record { post = p; partner = partner_for ms p })
add_new ms p =
    subst (λ n. slice_get (add ms p) n ≡ Some (record { post = p; partner = partner_for ms p }))
    (told_length ms (partner_for ms p))
    (get_last (partners_told ms (partner_for ms p)) (record { post = p; partner = partner_for ms p }))

pub add_old : (ms : List Line) (p : Post) (i : ℕ) (m : Line) → slice_get ms i ≡ Some m → (partner_for ms p ≡ Some i → ⊥)
    → slice_get (add ms p) i ≡ Some m
add_old ms p i m h other = get_front (partners_told ms (partner_for ms p)) _ i m (go (partner_for ms p) other)
  where
    go : (o : Option ℕ) → (o ≡ Some i → ⊥) → slice_get (partners_told ms o) i ≡ Some m
    go None other = h
    go (Some q) other = set_other ms q (length ms) i (λ e. other (ap (λ j. Some j) e)) ∙ h

pub add_given : (ms : List Line) (p : Post) (i : ℕ) (m : Line) → slice_get ms i ≡ Some m → partner_for ms p ≡ Some i
    → slice_get (add ms p) i ≡ Some (given m (length ms))
add_given ms p i m h e =
    get_front (partners_told ms (partner_for ms p)) _ i (given m (length ms)) (go (partner_for ms p) e)
  where
    go : (o : Option ℕ) → o ≡ Some i → slice_get (partners_told ms o) i ≡ Some (given m (length ms))
    go None e = absurd (cc)
    go (Some q) e = let same : q ≡ i = (cc) in
        subst (λ j. slice_get (partner_set ms j (length ms)) i ≡ Some (given m (length ms))) (sym same)
        (set_same ms i (length ms) m h)

pub add_length : (ms : List Line) (p : Post) → length (add ms p) ≡ length ms + 1
add_length ms p =
    snoc_length (partners_told ms (partner_for ms p)) _ ∙ ap (λ n. n + 1) (told_length ms (partner_for ms p))
  where
    snoc_length : {A : Type 0} (xs : List A) (x : A) → length (xs ++ x ∷ []) ≡ length xs + 1
    snoc_length [] x = refl
    snoc_length (y ∷ xs) x = (let e = snoc_length xs x in omega (arith, e))

-- How many ends have a text, and which.
use Rattle.std.specs.Prelude.{ℕ, zero, suc, ◌+◌, ◌<◌, ◌≡◌, Bool, true, false, cond, List, [], ◌∷◌, slice_get, Some}
use Rattle.std.specs.Str.{bytes_eq}
use Rattle.std.proofs.Common.{ap, arith, refl}
use Rattle.std.proofs.lemmas.List.Sums.{sum_by-cons}
use Rattle.std.proofs.lemmas.Slice.Eq.{bytes_eq-Decides}
use Rattle.rvmc_explore.specs.Outcomes.{ends_with}

-- 1 if a text is this one
abbrev one_if : List ℕ → List ℕ → ℕ
one_if body text = cond (bytes_eq body text) 1 0

first_and_rest : (body : List ℕ) (bodies : List (List ℕ)) (text : List ℕ)
    → ends_with (body ∷ bodies) text ≡ one_if body text + ends_with bodies text
first_and_rest body bodies text = sum_by-cons (λ b. one_if b text) body bodies

-- where some have the text, there is one
pub one_has : (bodies : List (List ℕ)) (text : List ℕ) → 0 < ends_with bodies text
    → (k : ℕ) × (slice_get bodies k ≡ Some text)
one_has [] text some = absurd (omega (arith, some))
one_has (body ∷ bodies) text some = of (λ low. one_has bodies text low) (bytes_eq body text) refl
  where
    of : (0 < ends_with bodies text → (k : ℕ) × (slice_get bodies k ≡ Some text)) → (b : Bool) → bytes_eq body text ≡ b
        → (k : ℕ) × (slice_get (body ∷ bodies) k ≡ Some text)
    of rest true is = (zero, ap Some ((bytes_eq-Decides body text).0 is))
    of rest false is =
        let none : one_if body text ≡ 0 = ap (λ b. cond b 1 0) is in
        let all = first_and_rest body bodies text in
        let there = rest (omega (arith, some, none, all)) in
        (suc there.0, there.1)

-- where there is one, some have the text
pub some_have : (bodies : List (List ℕ)) (text : List ℕ) (k : ℕ) → slice_get bodies k ≡ Some text
    → 0 < ends_with bodies text
some_have [] text k at = absurd (cc)
some_have (body ∷ bodies) text zero at =
    let same : body ≡ text = (cc) in
    let one : one_if body text ≡ 1 = ap (λ b. cond b 1 0) ((bytes_eq-Decides body text).1 same) in
    let all = first_and_rest body bodies text in
    omega (arith, one, all)
some_have (body ∷ bodies) text (suc k) at =
    let all = first_and_rest body bodies text in
    let rest = some_have bodies text k at in
    omega (arith, all, rest)

-- What is told of the sources, one more at a time.
use Rattle.std.proofs.Common.{◌≡◌, ◌∙◌, ℕ, zero, suc, ◌+◌, List, [], ◌∷◌, ◌++◌, ap, sym, refl, append-nil, append_assoc, add-zero, arith}
use Rattle.std.specs.List.{flat_map, range_with_len}
use Rattle.std.proofs.lemmas.Grind.{flat_map-append}

range_more : (a n : ℕ) → range_with_len a (n + 1) ≡ range_with_len a n ++ (a + n) ∷ []
range_more a zero = simp (add-zero) refl
range_more a (suc n) =
    let next = range_more (a + 1) n in
    let same : a + 1 + n ≡ a + suc n = omega arith in
    let one : suc n + 1 ≡ suc (n + 1) = omega arith in
    rw one (ap (λ rest. a ∷ rest) (next ∙ ap (λ k. range_with_len (a + 1) n ++ k ∷ []) same))

of_range_more : {A : Type 0} (f : ℕ → List A) (n : ℕ)
    → flat_map f (range_with_len 0 (n + 1)) ≡ flat_map f (range_with_len 0 n) ++ f n
of_range_more f n =
    let last : 0 + n ≡ n = omega arith in
    ap (flat_map f) (range_more 0 n) ∙ flat_map-append f (range_with_len 0 n) ((0 + n) ∷ [])
    ∙ ap (λ rest. flat_map f (range_with_len 0 n) ++ rest) (append-nil (f (0 + n)) ∙ ap f last)

-- those of one source more
pub source_more : {A : Type 0} (f : ℕ → List A) (old arrows new : List A) (n : ℕ)
    → arrows ≡ old ++ flat_map f (range_with_len 0 n) → new ≡ arrows ++ f n
    → new ≡ old ++ flat_map f (range_with_len 0 (n + 1))
source_more f old arrows new n so_far added =
    added ∙ ap (λ t. t ++ f n) so_far ∙ append_assoc old (flat_map f (range_with_len 0 n)) (f n)
    ∙ ap (λ rest. old ++ rest) (sym (of_range_more f n))

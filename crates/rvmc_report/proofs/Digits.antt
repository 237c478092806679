-- Hex digits behind zeros, and lines, one more at a time.
use Rattle.std.proofs.Common.{◌≡◌, ◌∙◌, ℕ, zero, suc, ◌+◌, ◌-◌, ◌^◌, List, [], ◌∷◌, ◌++◌, length, replicate, ap, refl, false, append-nil, add-zero, arith}
use Rattle.std.specs.Fmt.{char_count, format_spec, padded_integral}
use Rattle.std.specs.List.{flat_map, range_with_len}
use Rattle.std.proofs.lemmas.Grind.{flat_map-append}

-- what a number writes that is padded to a width by zeros
pub padded_by_zeros : (width : ℕ) (ds : List ℕ) → padded_integral (format_spec 32 0 4 width (2 ^ 64 - 1)) false [] ds ≡ replicate (width - length ds) 48 ++ ds
unfolding padded_integral char_count
padded_by_zeros width ds =
    let none : width - length ds - 0 - 0 ≡ width - length ds = omega arith in
    ap (λ k. replicate k 48 ++ (ds ++ [])) none ∙ ap (λ rest. replicate (width - length ds) 48 ++ rest) (append-nil ds)

range-more : (a n : ℕ) → range_with_len a (n + 1) ≡ range_with_len a n ++ (a + n) ∷ []
range-more a zero = simp (add-zero) refl
range-more a (suc n) =
    let next = range-more (a + 1) n in
    let same : a + 1 + n ≡ a + suc n = omega arith in
    let one : suc n + 1 ≡ suc (n + 1) = omega arith in
    rw one (ap (λ rest. a ∷ rest) (next ∙ ap (λ k. range_with_len (a + 1) n ++ k ∷ []) same))

-- one line more
pub flat_map-range_more : (f : ℕ → List ℕ) (n : ℕ) → flat_map f (range_with_len 0 (n + 1)) ≡ flat_map f (range_with_len 0 n) ++ f n
flat_map-range_more f n =
    let last : 0 + n ≡ n = omega arith in
    ap (flat_map f) (range-more 0 n) ∙ flat_map-append f (range_with_len 0 n) ((0 + n) ∷ [])
    ∙ ap (λ rest. flat_map f (range_with_len 0 n) ++ rest) (append-nil (f (0 + n)) ∙ ap f last)

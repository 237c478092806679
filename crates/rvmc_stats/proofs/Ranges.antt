-- The numbers below a number, and one more.
use Rattle.std.specs.Prelude.{ℕ, zero, suc, ◌+◌, ◌≡◌, List, [], ◌∷◌, ◌++◌}
use Rattle.std.specs.List.{flat_map, range_with_len}
use Rattle.std.proofs.Common.{refl, sym, ap, ◌∙◌, append_assoc, append-nil, arith}
use Rattle.rvmc_stats.specs.Texts.{numbers_below}

more_from : (f : ℕ → List ℕ) (a n : ℕ)
    → flat_map f (range_with_len a (suc n)) ≡ flat_map f (range_with_len a n) ++ f (a + n)
more_from f a zero = let same : a ≡ a + 0 = omega arith in append-nil (f a) ∙ ap f same
more_from f a (suc n) =
    let same : a + 1 + n ≡ a + suc n = omega arith in
    ap (λ rest. f a ++ rest) (more_from f (a + 1) n)
    ∙ sym (append_assoc (f a) (flat_map f (range_with_len (a + 1) n)) (f (a + 1 + n)))
    ∙ ap (λ k. (f a ++ flat_map f (range_with_len (a + 1) n)) ++ f k) same

lines_more : (f : ℕ → List ℕ) (n : ℕ) → flat_map f (numbers_below (n + 1)) ≡ flat_map f (numbers_below n) ++ f n
lines_more f n =
    let next : n + 1 ≡ suc n = omega arith in
    let same : 0 + n ≡ n = omega arith in
    ap (λ k. flat_map f (range_with_len 0 k)) next ∙ more_from f 0 n ∙ ap (λ k. flat_map f (numbers_below n) ++ f k) same

-- what stands behind a text, and one line more
pub more_lines : (f : ℕ → List ℕ) (n : ℕ) (old now new : List ℕ) → now ≡ old ++ flat_map f (numbers_below n)
    → new ≡ now ++ f n → new ≡ old ++ flat_map f (numbers_below (n + 1))
more_lines f n old now new so_far more =
    more ∙ ap (λ t. t ++ f n) so_far ∙ append_assoc old (flat_map f (numbers_below n)) (f n)
    ∙ ap (λ t. old ++ t) (sym (lines_more f n))

-- Lines, one more at a time.
use Rattle.std.proofs.Common.{◌≡◌, ◌∙◌, ℕ, ◌+◌, List, ◌++◌, ap, sym, append_assoc}
use Rattle.std.specs.List.{flat_map, range_with_len}
use Rattle.rvmc_report.proofs.Digits.{flat_map-range_more}

-- one line more
pub line_more : (f : ℕ → List ℕ) (old text line new : List ℕ) (n : ℕ) → text ≡ old ++ flat_map f (range_with_len 0 n) → line ≡ f n
    → new ≡ text ++ line → new ≡ old ++ flat_map f (range_with_len 0 (n + 1))
line_more f old text line new n so_far is added =
    added ∙ ap (λ l. text ++ l) is ∙ ap (λ t. t ++ f n) so_far ∙ append_assoc old (flat_map f (range_with_len 0 n)) (f n)
    ∙ ap (λ rest. old ++ rest) (sym (flat_map-range_more f n))

-- What rising numbers leave out.
use Rattle.std.proofs.Common.{◌≡◌, ◌≤◌, ℕ, List, [], ◌∷◌, false, refl, ap, ◌∙◌, arith}
use Rattle.std.specs.Prelude.{◌==◌, ◌||◌}
use Rattle.std.specs.List.{list_any}
use Rattle.std.proofs.lemmas.Bool.{ne_eqb}
use Rattle.mp_types.specs.Rising.{AreAbove}

-- a number at or below the one that all are above isn't among them
pub not_among : (k n : ℕ) → k ≤ n → (ms : List ℕ) → AreAbove n ms → list_any (λ m. m == k) ms ≡ false
not_among k n low [] above = refl
not_among k n low (m ∷ ms) above =
    let differs : (m == k) ≡ false = ne_eqb m k (λ e. omega (arith, e, low, above.0)) in
    ap (λ b. b || list_any (λ j. j == k) ms) differs ∙ not_among k m (omega (arith, low, above.0)) ms above.1

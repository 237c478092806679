-- Numbers that rise are distinct.
use Rattle.std.proofs.Common.{◌≡◌, ℕ, List, [], ◌∷◌, true, not, refl, ap, ◌∙◌, arith}
use Rattle.std.specs.Prelude.{◌&&◌}
use Rattle.mp_types.specs.Rising.{AreAbove, AreRising}
use Rattle.mp_types.proofs.Above.{not_among}
use Rattle.mp_hub.specs.Hub.{are_distinct}

above_distinct : (n : ℕ) (ns : List ℕ) → AreAbove n ns → are_distinct (n ∷ ns) ≡ true
above_distinct n [] above = refl
above_distinct n (m ∷ ns) above =
    ap (λ b. not b && are_distinct (m ∷ ns)) (not_among n n (omega arith) (m ∷ ns) above)
    ∙ above_distinct m ns above.1

pub rising_distinct : (ns : List ℕ) → AreRising ns → are_distinct ns ≡ true
rising_distinct [] rising = refl
rising_distinct (n ∷ ns) rising = above_distinct n ns rising

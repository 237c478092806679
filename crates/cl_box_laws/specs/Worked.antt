-- Worked rows: which deeds at one box keep the gate rule.
use Rattle.std.specs.Prelude.{ℕ, [], ◌∷◌}
use Rattle.cl_deeds.specs.Deeds.{Act, Deed}
use Rattle.cl_box_laws.specs.Gates.{Gate, KeepsGate}

-- partition 0 of link 0 is made ready
abbrev pub made : ℕ → Deed
made stamp = record { rank = 0; hart = 0; stamp = stamp; act = Act.Ready 0 0 [] }

-- and seen taken, by a gate of this stamp
abbrev pub seen_taken : ℕ → ℕ → Deed
seen_taken gate stamp = record { rank = 0; hart = 0; stamp = stamp; act = Act.Freed 0 0 gate }

-- made ready at 1, taken at 5 by the other rank, seen taken at 6, and made ready again at 7
abbrev pub KeptRow : Type 0
KeptRow = KeepsGate Gate.Unused (made 1 ∷ seen_taken 5 6 ∷ made 7 ∷ [])

-- made ready twice, and not seen taken between
abbrev pub TwiceRow : Type 0
TwiceRow = ¬ (KeepsGate Gate.Unused (made 1 ∷ made 2 ∷ []))

-- seen taken, and never made ready
abbrev pub UnmadeRow : Type 0
UnmadeRow = ¬ (KeepsGate Gate.Unused (seen_taken 0 1 ∷ []))

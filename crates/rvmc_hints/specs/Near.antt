-- Names that differ from another by one slip of the hand.
use Rattle.std.specs.Prelude.{ℕ, ◌==◌, ◌||◌, ◌&&◌, if◌then◌else◌, Bool, false, List, [], ◌∷◌, length}
use Rattle.std.specs.Str.{bytes_eq}

-- the first two bytes are swapped, and all others the same
abbrev pub is_swapped : List ℕ → List ℕ → Bool
is_swapped (a ∷ b ∷ ones) (c ∷ d ∷ others) = (a == d) && ((b == c) && bytes_eq ones others)
is_swapped ones others = false

-- two names whose first bytes differ: the first stands for another, is one too many or is missing, or is swapped with
-- the next
abbrev pub is_slip : List ℕ → List ℕ → Bool
is_slip [] [] = false
is_slip (a ∷ ones) [] = length ones == 0
is_slip [] (b ∷ others) = length others == 0
is_slip (a ∷ ones) (b ∷ others) =
    bytes_eq ones others
    || (bytes_eq ones (b ∷ others) || (bytes_eq (a ∷ ones) others || is_swapped (a ∷ ones) (b ∷ others)))

-- one slip, at the first byte at which two names differ
abbrev pub is_near : List ℕ → List ℕ → Bool
is_near (a ∷ ones) (b ∷ others) = if a == b then is_near ones others else is_slip (a ∷ ones) (b ∷ others)
is_near ones others = is_slip ones others

-- Parts of a text that is told piece by piece (GDB manual, 'General Query Packets').
use Rattle.std.specs.Prelude.{◌≡◌, ℕ, ◌+◌, ◌<◌, List, ◌∷◌, ◌++◌, length, take, drop, nat_le, if◌then◌else◌}

-- at most so many bytes of a text, from this one on: behind `l` where nothing follows them, and else behind `m`
abbrev pub part_of : List ℕ → ℕ → ℕ → List ℕ
part_of whole from count =
    if nat_le (length (drop from whole)) count then 108 ∷ drop from whole else 109 ∷ take count (drop from whole)

-- the parts of a text, one behind another, are the text
abbrev pub PartLaw : Type 0
PartLaw =
    (whole : List ℕ) (from count : ℕ)
    → (count < length (drop from whole) → take count (drop from whole) ++ drop (from + count) whole ≡ drop from whole)

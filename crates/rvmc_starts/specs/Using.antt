-- Which of several parts count: one a start.
use Rattle.std.specs.Prelude.{ℕ, suc, zero, ◌+◌, Bool, ◌&&◌, ◌==◌, List, [], ◌∷◌, ◌++◌, Option, Some, None, if◌then◌else◌, not}
use Rattle.std.specs.List.{list_any}
use Rattle.rvmc_starts.specs.declared.parts.Part.{Part}

-- all ends of the start were told
abbrev pub is_whole : Part → Bool
is_whole part = part.left == 0

abbrev pub is_of : ℕ → Part → Bool
is_of number part = part.number == number

-- all ends of the start of this number were told by one of the parts
abbrev pub any_whole : List Part → ℕ → Bool
any_whole parts number = list_any (λ part. is_of number part && is_whole part) parts

abbrev pub any_of : List Part → ℕ → Bool
any_of parts number = list_any (is_of number) parts

-- the first of its start that is whole, or else the first
abbrev pub is_used : List Part → Part → List Part → Bool
is_used before part after =
    if is_whole part then not (any_whole before part.number)
    else (not (any_of before part.number) && not (any_whole after part.number))

-- those of the parts that count, behind others
abbrev pub used : List Part → List Part → List Part
used before [] = []
used before (part ∷ after) =
    if is_used before part after then part ∷ used (before ++ part ∷ []) after else used (before ++ part ∷ []) after

-- the first start that isn't told whole, of so many from this number on
abbrev pub lacking : List Part → ℕ → ℕ → Option ℕ
lacking parts number zero = None
lacking parts number (suc more) = if any_whole parts number then lacking parts (number + 1) more else Some number

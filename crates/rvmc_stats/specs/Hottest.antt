-- The places of a list that have most.
use Rattle.std.specs.Prelude.{ℕ, zero, suc, ◌≡◌, ◌<◌, ◌==◌, ◌&&◌, ◌||◌, not, nat_lt, Bool, true, false, List, [], ◌∷◌}
use Rattle.std.specs.Prelude.{Option, Some, None}
use Rattle.rvmc_stats.specs.Tallies.{count_at}

-- a place comes before another where its number is greater; of equal numbers the lower place comes first
abbrev pub is_hotter : List ℕ → ℕ → ℕ → Bool
is_hotter counts a b =
    nat_lt (count_at counts b) (count_at counts a) || ((count_at counts a == count_at counts b) && nat_lt a b)

-- a place whose number isn't 0, behind the last one
abbrev pub is_behind : List ℕ → Option ℕ → ℕ → Bool
is_behind counts None place = true
is_behind counts (Some last) place = is_hotter counts last place

abbrev pub is_yet_left : List ℕ → Option ℕ → ℕ → Bool
is_yet_left counts last place = not (count_at counts place == 0) && is_behind counts last place

-- one of those below an end, before which none of them comes
pub record IsFirstBelow (counts : List ℕ) (last : Option ℕ) (end place : ℕ) : Type 0 where
  pub within : place < end
  pub left : is_yet_left counts last place ≡ true
  pub first : (other : ℕ) → other < end → is_yet_left counts last other ≡ true → is_hotter counts other place ≡ false

-- there is none, or this one
abbrev pub IsNextBelow : List ℕ → Option ℕ → ℕ → Option ℕ → Type 0
IsNextBelow counts last end None = (other : ℕ) → other < end → is_yet_left counts last other ≡ false
IsNextBelow counts last end (Some place) = IsFirstBelow counts last end place

-- at most so many places of a list of this length, the first ones in this order: where they are fewer there are no others
abbrev pub AreHottest : List ℕ → ℕ → ℕ → Option ℕ → List ℕ → Type 0
AreHottest counts len zero last places = places ≡ []
AreHottest counts len (suc most) last [] = IsNextBelow counts last len None
AreHottest counts len (suc most) last (place ∷ places) =
    IsNextBelow counts last len (Some place) × AreHottest counts len most (Some place) places

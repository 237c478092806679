-- The boxes of a state, by their numbers among all boxes.
use Rattle.std.specs.Prelude.{ℕ, ◌/◌, ◌%◌, ◌≡◌, List, replicate, slice_get, slice_set, Option, Some, None, true, false}
use Rattle.part_box.specs.declared.settled.Settled.{Settled}

abbrev pub at_part : Option (List Settled) → ℕ → Option Settled
at_part None part = None
at_part (Some boxes) part = slice_get boxes part

-- what stands in the box of this number; each link has 16
abbrev pub settled_at : List (List Settled) → ℕ → Option Settled
settled_at boxes number = at_part (slice_get boxes (number / 16)) (number % 16)

-- another thing stands in this box, and all others are as they were
pub record ChangesBox (old : List (List Settled)) (number : ℕ) (settled : Settled)
    (new : List (List Settled)) : Type 0 where
  pub link : List Settled
  pub there : slice_get old (number / 16) ≡ Some link
  pub changed : new ≡ slice_set old (number / 16) (slice_set link (number % 16) settled)

-- a box in which nothing stands, since this stamp
abbrev pub vacant : ℕ → Settled
vacant stamp = record { full = false; stamp = stamp; words = replicate 16 0 }

-- a box in which these words stand, since this stamp
abbrev pub filled : ℕ → List ℕ → Settled
filled stamp words = record { full = true; stamp = stamp; words = words }

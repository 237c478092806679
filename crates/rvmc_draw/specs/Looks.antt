-- Looks in vain of a hart: a bar begins at the first, and ends at the step that went on.
use Rattle.std.specs.Prelude.{ℕ, ◌+◌, ◌*◌, ◌-◌, ◌^◌, if◌then◌else◌, true, false, List, [], ◌∷◌, min, Option, Some, None}
use Rattle.std.specs.List.{slice_get}
use Rattle.std.specs.Option.{is_some}
use Rattle.rvmc_draw.specs.declared.deeds.Deed.{Deed}
use Rattle.rvmc_draw.specs.declared.drawing.Bar.{Bar}
use Rattle.rvmc_draw.specs.declared.drawing.Spot.{Spot}

-- the bar with a look more; where there is none it begins
abbrev pub longer : Option Bar → Spot → Bar
longer None spot = record { first = spot; last = 0; went_on = false; looks = 1 }
longer (Some bar) spot =
    record { first = bar.first; last = bar.last; went_on = bar.went_on; looks = min (bar.looks + 1) (2 ^ 64 - 1) }

-- the bar that a step ended
abbrev pub bar_ended : Bar → Spot → Bar
bar_ended bar spot = record { first = bar.first; last = spot.place; went_on = true; looks = bar.looks }

-- the hart's bar behind a step. An instruction leaves it, a look in vain makes it longer, any other call ends it
abbrev pub begun_by : Option Bar → Deed → Option Bar
begun_by begun d = if is_some d.shape then (if d.vain then Some (longer begun d.spot) else None) else begun

abbrev pub ended_if : Option Bar → Spot → List Bar
ended_if None spot = []
ended_if (Some bar) spot = bar_ended bar spot ∷ []

-- the bar that the step ends, if it ends one
abbrev pub ended_by : Option Bar → Deed → List Bar
ended_by begun d = if is_some d.shape then (if d.vain then [] else ended_if begun d.spot) else []

-- a bar that no step ended, up to the end
unfoldable pub open_to : ℕ → Option Bar → List Bar
open_to end None = []
open_to end (Some bar) = record { first = bar.first; last = end; went_on = false; looks = bar.looks } ∷ []

-- ---- all harts

-- the number of a step's hart, which are numbered rank by rank
abbrev pub lane_of : ℕ → Spot → ℕ
lane_of harts spot = spot.rank * harts + spot.hart

-- the bar of the hart with this number, if it looked in vain before
abbrev pub begun_at : Option (Option Bar) → Option Bar
begun_at None = None
begun_at (Some begun) = begun

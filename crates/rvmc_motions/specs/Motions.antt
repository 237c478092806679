-- Where motions lead: the first place behind another at which a motion ends, or the last one before it.
use Rattle.std.specs.Prelude.{ℕ, ◌≡◌, ◌<◌, ◌≤◌, ◌⊎◌, List, length, Option, Some, None}
use Rattle.cl_machine.specs.Cluster.{Cluster}
use Rattle.cl_debug.specs.Debugging.{Debugging, at_place}
use Rattle.rvmc_protocol.specs.declared.replies.stops.Stop.{Stop}
use Rattle.rvmc_protocol.specs.declared.replies.stops.Stop.TheVariants as ends
use Rattle.rvmc_motions.specs.declared.marks.Halt.{Halt}
use Rattle.rvmc_motions.specs.declared.marks.Mark.{Mark}
use Rattle.rvmc_motions.specs.declared.marks.Mover.{Mover}
use Rattle.rvmc_motions.specs.Turns.{IsHistory, backward_stop, forward_stop}

-- at an end of the record, for the hart that was meant
abbrev pub halt_at : Stop → Mover → Halt
halt_at stop mover = record { stop = stop; rank = mover.rank; hart = mover.hart }

-- none of the places between two ends a motion
abbrev pub NoneBetween : (ℕ → Option Halt) → ℕ → ℕ → Type 0
NoneBetween stops from to = (n : ℕ) → from < n → n < to → stops n ≡ None

-- the first place behind `from` at which a motion ends; or else the last one of so many
abbrev pub IsFirstBehind : (ℕ → Option Halt) → ℕ → ℕ → Mover → ℕ → Halt → Type 0
IsFirstBehind stops from length mover to halt =
    ((from < to) × (to ≤ length) × (stops to ≡ Some halt) × NoneBetween stops from to)
    ⊎ ((to ≡ length) × (halt ≡ halt_at ends.End mover) × ((n : ℕ) → from < n → n ≤ length → stops n ≡ None))

-- the last place before `from` at which a motion ends; or else the first of all
abbrev pub IsLastBefore : (ℕ → Option Halt) → ℕ → Mover → ℕ → Halt → Type 0
IsLastBefore stops from mover to halt =
    ((to < from) × (stops to ≡ Some halt) × NoneBetween stops to from)
    ⊎ ((to ≡ 0) × (halt ≡ halt_at ends.Begin mover) × ((n : ℕ) → n < from → stops n ≡ None))

-- the debugger went forwards to where the motion ends, for this
pub record GoesForwards (old : Debugging) (marks : List Mark) (mover : Mover) (halt : Halt) (new : Debugging) : Type 0 where
  pub moved : new ≡ at_place old new.place
  pub there : (history : ℕ → Cluster) → IsHistory old.image old.steps history
      → IsFirstBehind (forward_stop mover marks old.steps history) old.place (length old.steps) mover new.place halt

-- and backwards
pub record GoesBackwards (old : Debugging) (marks : List Mark) (mover : Mover) (halt : Halt) (new : Debugging) : Type 0 where
  pub moved : new ≡ at_place old new.place
  pub there : (history : ℕ → Cluster) → IsHistory old.image old.steps history
      → IsLastBefore (backward_stop mover marks old.steps history) old.place mover new.place halt

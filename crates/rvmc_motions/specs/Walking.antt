-- One step of a motion, and what is found on the way.
use Rattle.std.specs.Prelude.{ℕ, ◌≡◌, ◌<◌, ◌≤◌, ◌+◌, List, Option, Some, None}
use Rattle.cl_machine.specs.Cluster.{Cluster}
use Rattle.cl_debug.specs.Debugging.{Debugging, at_place}
use Rattle.rvmc_motions.specs.declared.marks.Halt.{Halt}
use Rattle.rvmc_motions.specs.declared.marks.Mark.{Mark}
use Rattle.rvmc_motions.specs.declared.marks.Mover.{Mover}
use Rattle.rvmc_motions.specs.Turns.{IsHistory, backward_stop, forward_stop, next_at, turn_at}
use Rattle.rvmc_motions.specs.Motions.{NoneBetween}

-- what is told at the debugger's place, whatever history the record has, is this function of it
abbrev pub Tells : Debugging → ((ℕ → Cluster) → Option Halt) → Option Halt → Type 0
Tells debugging stop told =
    (history : ℕ → Cluster) → IsHistory debugging.image debugging.steps history → told ≡ stop history

-- why a motion ends for the step at the place, or for the one that comes next there
abbrev pub TellsTurn : Debugging → List Mark → Mover → Option Halt → Type 0
TellsTurn debugging marks mover told =
    Tells debugging (λ history. turn_at mover marks debugging.steps history debugging.place) told

abbrev pub TellsNext : Debugging → List Mark → Mover → Option Halt → Type 0
TellsNext debugging marks mover told =
    Tells debugging (λ history. next_at mover marks debugging.steps history debugging.place) told

-- why a motion ends behind the step at the place, or before it
abbrev pub TellsForward : Debugging → List Mark → Mover → Option Halt → Type 0
TellsForward debugging marks mover told =
    Tells debugging (λ history. forward_stop mover marks debugging.steps history (debugging.place + 1)) told

abbrev pub TellsBackward : Debugging → List Mark → Mover → Option Halt → Type 0
TellsBackward debugging marks mover told =
    Tells debugging (λ history. backward_stop mover marks debugging.steps history debugging.place) told

-- one place on
abbrev pub one_on : Debugging → Debugging
one_on debugging = at_place debugging (debugging.place + 1)

-- the place that was found last, and what is found at the next one
abbrev pub later : Option (ℕ × Halt) → ℕ → Option Halt → Option (ℕ × Halt)
later found place None = found
later found place (Some halt) = Some (place, halt)

-- what was found stands below a place
abbrev pub IsBelow : ℕ → Option (ℕ × Halt) → Type 0
IsBelow n None = Unit {0}
IsBelow n (Some found) = found.0 < n

-- what is found last of all places from `low` on and below `n`
abbrev pub IsLastIn : (ℕ → Option Halt) → ℕ → ℕ → Option (ℕ × Halt) → Type 0
IsLastIn stops low n None = (m : ℕ) → low ≤ m → m < n → stops m ≡ None
IsLastIn stops low n (Some found) =
    (low ≤ found.0) × (found.0 < n) × (stops found.0 ≡ Some found.1) × NoneBetween stops found.0 n

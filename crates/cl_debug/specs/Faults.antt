-- What a debugger's refusals mean.
use Rattle.std.specs.Prelude.{ℕ, ◌≡◌, ◌<◌, ◌⊎◌, List, length, slice_get, Some}
use Rattle.rv_image_types.specs.declared.images.ImageParts.{ImageParts}
use Rattle.cl_state.specs.Rank.{Rank}
use Rattle.cl_machine.specs.Cluster.{Cluster}
use Rattle.cl_machine.specs.declared.steps.Step.{Step}
use Rattle.cl_replay.specs.InnerReplaying.{BreaksAt}
use Rattle.cl_replay.specs.Steps.{KindTakesMemory}
use Rattle.cl_replay.specs.Below.{LacksPages}
use Rattle.cl_debug.specs.Debugging.{Debugging}
use Rattle.cl_debug.specs.Places.{IsAt}
use Rattle.cl_debug.specs.declared.faults.DebugFault.{DebugFault}

-- a record isn't opened: its steps are no run, and this is the first that isn't the machine's, or memory was refused
abbrev pub OpenFaultHolds : ImageParts → List Step → DebugFault → Type 0
OpenFaultHolds image steps (DebugFault.NotARun n) = BreaksAt image steps n
OpenFaultHolds image steps DebugFault.Memory = Unit {0}
OpenFaultHolds image steps _ = ⊥

-- a place isn't reached: there are so many steps, and they are fewer, or memory was refused
abbrev pub GoFaultHolds : List Step → ℕ → DebugFault → Type 0
GoFaultHolds steps n (DebugFault.PastEnd len) = (len ≡ length steps) × (length steps < n)
GoFaultHolds steps n DebugFault.Memory = Unit {0}
GoFaultHolds steps n _ = ⊥

-- a hart isn't named by its numbers: the rank isn't there, or the hart isn't
abbrev pub IsNameFault : DebugFault → Type 0
IsNameFault DebugFault.NoRank = Unit {0}
IsNameFault DebugFault.NoHart = Unit {0}
IsNameFault _ = ⊥

-- a break isn't set: the hart isn't named, or memory was refused
abbrev pub IsBreakFault : DebugFault → Type 0
IsBreakFault DebugFault.NoRank = Unit {0}
IsBreakFault DebugFault.NoHart = Unit {0}
IsBreakFault DebugFault.Memory = Unit {0}
IsBreakFault _ = ⊥

-- bytes aren't shown: the rank isn't there, a byte is outside its memory, or memory was refused
abbrev pub IsBytesFault : DebugFault → Type 0
IsBytesFault DebugFault.NoRank = Unit {0}
IsBytesFault DebugFault.Range = Unit {0}
IsBytesFault DebugFault.Memory = Unit {0}
IsBytesFault _ = ⊥

-- memory is taken for the step at the place: for a page that isn't there and that its turn may write, or for what a
-- step of its kind makes or carries
pub record NextTakesMemory (debugging : Debugging) : Type 0 where
  pub step : Step
  pub next : slice_get debugging.steps debugging.place ≡ Some step
  pub cluster : Cluster
  pub here : IsAt debugging.image debugging.steps debugging.place cluster
  pub rank : Rank
  pub rank_there : slice_get cluster.ranks step.rank ≡ Some rank
  pub takes : LacksPages rank step.hart ⊎ KindTakesMemory cluster step rank step.kind

-- Where steps lead from one place to another, and what a debugger keeps on its way.
use Rattle.std.specs.Prelude.{ℕ, ◌≡◌, ◌<◌, ◌≤◌, ◌*◌, List, length, slice_get, Some}
use Rattle.rv_image_types.specs.declared.images.ImageParts.{ImageParts}
use Rattle.cl_machine.specs.declared.steps.Step.{Step}
use Rattle.cl_replay.specs.declared.states.ClusterState.{ClusterState}
use Rattle.cl_replay.specs.Kept.{Snapshot, snapshot}
use Rattle.cl_replay.specs.Replays.{IsRunUpTo}
use Rattle.cl_replay.specs.Replaying.{IsReached}
use Rattle.cl_replay.specs.InnerReplaying.{BreaksAt}
use Rattle.cl_debug.specs.Spacing.{IsSpacing, multiples}
use Rattle.cl_debug.specs.declared.faults.DebugFault.{DebugFault}

-- why steps before a place weren't done: the machine doesn't have this one where the steps before it lead, or memory
-- was refused
abbrev pub LeadFaultHolds : List Step → ℕ → ClusterState → ℕ → DebugFault → Type 0
LeadFaultHolds steps from old to (DebugFault.NotARun n) =
    (n < to) × ((image : ImageParts) → IsReached image steps from old → BreaksAt image steps n)
LeadFaultHolds steps from old to DebugFault.Memory = Unit {0}
LeadFaultHolds steps from old to _ = ⊥

-- what was kept at one place: a state that has these parts is the cluster there
abbrev pub IsKeptAt : ImageParts → List Step → ℕ → Snapshot → Type 0
IsKeptAt image steps n kept = (state : ClusterState) → snapshot state ≡ kept → IsReached image steps n state

-- what was kept at all multiples of the spacing, from the loaded cluster on
pub record AreKept (image : ImageParts) (steps : List Step) (spacing : ℕ) (kept : List Snapshot) : Type 0 where
  pub count : length kept ≡ multiples spacing (length steps)
  pub reached : (k : ℕ) (here : Snapshot) → slice_get kept k ≡ Some here → IsKeptAt image steps (k * spacing) here

-- what always holds of a debugger: the steps are a run, the state is the cluster at the place, and the kept states are
-- as far apart as the number of steps wants
pub record IsDebugger (image : ImageParts) (steps : List Step) (place : ℕ) (state : ClusterState) (spacing : ℕ)
    (kept : List Snapshot) : Type 0 where
  pub run : IsRunUpTo image steps (length steps)
  pub inside : place ≤ length steps
  pub here : IsReached image steps place state
  pub spaced : IsSpacing (length steps) spacing
  pub kept_there : AreKept image steps spacing kept

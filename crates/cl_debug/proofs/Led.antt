-- Steps that lead on.
use Rattle.std.specs.Prelude.{ℕ, ◌≤◌, ◌≡◌, List, length, slice_get, Some}
use Rattle.std.proofs.Common.{refl, ◌∙◌, arith}
use Rattle.std.proofs.lemmas.Option.{slice_get_within}
use Rattle.rv_image_types.specs.declared.images.ImageParts.{ImageParts}
use Rattle.cl_machine.specs.declared.steps.Step.{Step}
use Rattle.cl_replay.specs.declared.states.ClusterState.{ClusterState}
use Rattle.cl_replay.specs.Kept.{Snapshot, snapshot}
use Rattle.cl_replay.specs.Replays.{IsRunUpTo}
use Rattle.cl_replay.specs.Replaying.{IsReached}
use Rattle.cl_replay.specs.InnerStates.{StandsAlike}
use Rattle.cl_replay.specs.Steps.{LeadsNowhere}
use Rattle.cl_replay.proofs.Runs.{breaks, run_law}
use Rattle.cl_replay.proofs.Same.{same_stands, snapshot_same}
use Rattle.cl_replay.specs.Walking.{LeadsOn}
use Rattle.cl_debug.specs.Leads.{IsKeptAt, LeadFaultHolds}
use Rattle.cl_debug.specs.declared.faults.DebugFault.{DebugFault}

-- a copy is where its original is
pub copy_reached : (steps : List Step) (n : ℕ) (state copy : ClusterState) → StandsAlike state copy
    → LeadsOn steps n state n copy
copy_reached steps n state copy alike = λ image reached. record {
  cluster = reached.cluster;
  run = reached.run;
  stands = alike image reached.cluster reached.stands;
}

-- what is kept of the cluster at a place was kept there
pub kept_here : (image : ImageParts) (steps : List Step) (n : ℕ) (state : ClusterState) (kept : Snapshot)
    → kept ≡ snapshot state → IsReached image steps n state → IsKeptAt image steps n kept
kept_here image steps n state kept is reached other same =
    copy_reached steps n state other (same_stands state other (snapshot_same state other (same ∙ is))) image reached

-- where the steps are a run, none of them is refused
pub only_memory : (image : ImageParts) (steps : List Step) (from : ℕ) (state : ClusterState) (to : ℕ)
    → IsRunUpTo image steps (length steps) → IsReached image steps from state → to ≤ length steps
    → (fault : DebugFault) → LeadFaultHolds steps from state to fault → fault ≡ DebugFault.Memory
only_memory image steps from state to run reached within (DebugFault.NotARun n) h =
    absurd (run_law image steps (length steps) n run (let below = h.0 in omega (arith, below, within)) (h.1
    image reached))
only_memory image steps from state to run reached within DebugFault.Memory h = refl
only_memory image steps from state to run reached within (DebugFault.PastEnd n) h = absurd h
only_memory image steps from state to run reached within DebugFault.NoRank h = absurd h
only_memory image steps from state to run reached within DebugFault.NoHart h = absurd h
only_memory image steps from state to run reached within DebugFault.Range h = absurd h
only_memory image steps from state to run reached within DebugFault.NoSymbol h = absurd h

-- and the machine has each of them
pub never_nowhere : (image : ImageParts) (steps : List Step) (n : ℕ) (state : ClusterState)
    → IsRunUpTo image steps (length steps) → IsReached image steps n state → (e : Step) → slice_get steps n ≡ Some e
    → ¬ LeadsNowhere state e
never_nowhere image steps n state run reached e there nowhere =
    run_law image steps (length steps) n run (slice_get_within steps n e there)
    (breaks image steps n state reached e there nowhere)

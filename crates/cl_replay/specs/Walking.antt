-- Where the steps between two places of a list lead.
use Rattle.std.specs.Prelude.{ℕ, ◌≡◌, ◌<◌, ◌+◌, ◌-◌, List, take, slice_get, Some}
use Rattle.std.specs.Vec.{with_item}
use Rattle.rv_hart.specs.State.{State}
use Rattle.rv_image_types.specs.declared.images.ImageParts.{ImageParts}
use Rattle.rv_memory.specs.Memory.{Memory}
use Rattle.cl_machine.specs.Order.{InOrder}
use Rattle.cl_machine.specs.declared.steps.Step.{Step}
use Rattle.cl_state.specs.declared.state.RankState.{RankState}
use Rattle.cl_replay.specs.declared.faults.WalkFault.{WalkFault}
use Rattle.cl_replay.specs.declared.states.ClusterState.{ClusterState}
use Rattle.cl_replay.specs.declared.walking.Whose.{Whose}
use Rattle.cl_replay.specs.InnerReplaying.{BreaksAt}
use Rattle.cl_replay.specs.Replaying.{IsReached}

-- of whichever image the old state is the cluster at one place, the new state is the one at the other
abbrev pub LeadsOn : List Step → ℕ → ClusterState → ℕ → ClusterState → Type 0
LeadsOn steps from old to new =
    (image : ImageParts) → IsReached image steps from old → IsReached image steps to new

-- why the steps before a place weren't done: the machine doesn't have this one where the steps before it lead, or
-- memory was refused
abbrev pub WalkFaultHolds : List Step → ℕ → ClusterState → ℕ → WalkFault → Type 0
WalkFaultHolds steps from old to (WalkFault.Step n) =
    (n < to) × ((image : ImageParts) → IsReached image steps from old → BreaksAt image steps n)
WalkFaultHolds steps from old to WalkFault.Memory = Unit {0}

-- where the steps before one place, which lead to this state, are in order, those before the other are
abbrev pub KeepsOrder : List Step → ℕ → ClusterState → ℕ → Type 0
KeepsOrder steps from old to =
    (image : ImageParts) → IsReached image steps from old
    → InOrder (λ (e : Step). e.stamp) (λ (e : Step). e.rank) (take from steps)
    → InOrder (λ (e : Step). e.stamp) (λ (e : Step). e.rank) (take to steps)

-- the same cluster with another state of one of its ranks
abbrev pub with_rank : ClusterState → ℕ → RankState → ClusterState
with_rank cluster r state = record {
  ranks = with_item cluster.ranks r state;
  hub = cluster.hub;
  clock = cluster.clock;
  boxes = cluster.boxes;
}

-- whichever cluster has this rank, the steps between two places lead it to the same one with the rank's new state, and
-- stay in order
pub record GoesOn (steps : List Step) (r : ℕ) (from : ℕ) (old : RankState) (to : ℕ) (new : RankState) : Type 0 where
  pub leads : (cluster : ClusterState) → slice_get cluster.ranks.items r ≡ Some old
      → LeadsOn steps from cluster to (with_rank cluster r new)
  pub order : (cluster : ClusterState) → slice_get cluster.ranks.items r ≡ Some old → KeepsOrder steps from cluster to

-- a hart with the memory and the clock of its rank
pub record HartAt : Type 0 where
  pub hart : State
  pub memory : Memory
  pub clock : ℕ

abbrev pub hart_at : State → Memory → ℕ → HartAt
hart_at hart memory clock = record { hart = hart; memory = memory; clock = clock }

-- the rank has this hart, this memory and this clock
pub record HasHart (rank : RankState) (hart : ℕ) (at : HartAt) : Type 0 where
  pub there : slice_get rank.harts.items hart ≡ Some at.hart
  pub memory : rank.memory ≡ at.memory
  pub clock : rank.clock ≡ at.clock

-- the same rank with another state of one of its harts, another memory and another clock
abbrev pub with_hart : RankState → ℕ → HartAt → RankState
with_hart rank hart at = record rank {
  harts = with_item rank.harts hart at.hart;
  memory = at.memory;
  clock = at.clock;
}

-- these steps stand in a list from a place on, behind a step of this stamp
pub record StandsIn (run steps : List Step) (from clock : ℕ) : Type 0 where
  pub behind : 0 < from
  pub last : Step
  pub before : slice_get steps (from - 1) ≡ Some last
  pub stamp : last.stamp ≡ clock
  pub each : (k : ℕ) (e : Step) → slice_get run k ≡ Some e → slice_get steps (from + k) ≡ Some e

-- so many of these steps lead whichever rank has this hart to the same one with the hart's new state, in whichever list
-- they stand behind a step of the clock's stamp; and the new clock is the stamp of the last one
pub record HartGoesOn (run : List Step) (whose : Whose) (old : HartAt) (n : ℕ) (new : HartAt) : Type 0 where
  pub goes : (steps : List Step) (from : ℕ) (rank : RankState) → StandsIn run steps from old.clock
      → HasHart rank whose.hart old
      → GoesOn steps whose.rank from rank (from + n) (with_hart rank whose.hart new)
  pub stamp : (steps : List Step) (from : ℕ) → StandsIn run steps from old.clock
      → (last : Step) × (slice_get steps (from + n - 1) ≡ Some last) × (last.stamp ≡ new.clock)

-- Who is stuck in whichever cluster a state is.
use Rattle.std.specs.Prelude.{ℕ, ◌<◌, ◌≡◌, List, Some, slice_get}
use Rattle.rv_image_types.specs.declared.images.ImageParts.{ImageParts}
use Rattle.cl_state.specs.Asked.{asked}
use Rattle.cl_state.specs.TurnRoom.{carried}
use Rattle.cl_state.specs.Room.{rank_of}
use Rattle.cl_state.specs.declared.state.RankState.{RankState}
use Rattle.cl_replay.specs.Below.{Cluster}
use Rattle.cl_replay.specs.declared.states.ClusterState.{ClusterState}
use Rattle.cl_replay.specs.States.{ClusterStandsFor}
use Rattle.cl_deadlock_laws.specs.Stuck.{AreStuck, IsDeadlock, IsReachable, SomeWaits}
use Rattle.cl_deadlock_laws.specs.Laws.{IsStuckBeside}
use Rattle.cl_deadlock.specs.Why.{HasStuck, IsStateOf}

-- each hart of the rank is stopped, or held beside these
abbrev pub IsStuckIn : List ℕ → ClusterState → ℕ → Type 0
IsStuckIn among state rank =
    (image : ImageParts) (cluster : Cluster) → ClusterStandsFor image state cluster → IsStuckBeside among cluster rank

-- a hart of the rank is neither stopped nor held beside these
abbrev pub IsFreeIn : List ℕ → ClusterState → ℕ → Type 0
IsFreeIn among state rank =
    (image : ImageParts) (cluster : Cluster) → IsStateOf image state cluster → ¬ IsStuckBeside among cluster rank

-- a hart of the rank asks with a list of posts, or with bytes, which takes memory
abbrev pub TakesMemory : ClusterState → ℕ → Type 0
TakesMemory state rank =
    (own : RankState) × (hart : ℕ)
    × (slice_get state.ranks.items rank ≡ Some own)
    × (0 < carried (asked (rank_of own) hart))

-- each hart of each of these ranks is stopped or held beside them
abbrev pub AreStuckIn : List ℕ → ClusterState → Type 0
AreStuckIn among state =
    (image : ImageParts) (cluster : Cluster) → ClusterStandsFor image state cluster → AreStuck among cluster

-- whichever ranks are stuck together are among these
abbrev pub HasStuckIn : List ℕ → ClusterState → Type 0
HasStuckIn among state =
    (image : ImageParts) (cluster : Cluster) → IsStateOf image state cluster → HasStuck among cluster

-- where the state was reached from an image, and a hart of these ranks waits, no run of the machine lets any of them go
-- on
abbrev pub IsDeadlockIn : List ℕ → ClusterState → Type 0
IsDeadlockIn among state =
    (image : ImageParts) (cluster : Cluster) → ClusterStandsFor image state cluster → IsReachable image cluster
    → SomeWaits among cluster → IsDeadlock among cluster

-- What is told of deadlock: the most ranks of a state that wait on one another alone.
use Rattle.std.specs.Prelude.{ℕ, ◌<◌, IsTrue, List, length, Option, Some, None}
use Rattle.std.specs.List.Sorted.{IsStrictlyIncreasing}
use Rattle.rv_image_types.specs.Image.{IsImage}
use Rattle.rv_image_types.specs.declared.images.ImageParts.{ImageParts}
use Rattle.mp_wait_laws.specs.Waits.{OnlyOf}
use Rattle.cl_replay.specs.Below.{Cluster}
use Rattle.cl_replay.specs.declared.states.ClusterState.{ClusterState}
use Rattle.cl_replay.specs.States.{ClusterStandsFor}
use Rattle.cl_deadlock_laws.specs.Stuck.{AreStuck, IsDeadlock, IsReachable, SomeWaits, is_among}

-- the state is this cluster, which was reached from this image
pub record IsStateOf (image : ImageParts) (state : ClusterState) (cluster : Cluster) : Type 0 where
  pub right : IsImage image
  pub reached : IsReachable image cluster
  pub stands : ClusterStandsFor image state cluster

-- each of these is below the count
abbrev pub AreBelow : List ℕ → ℕ → Type 0
AreBelow ranks count = (r : ℕ) → IsTrue (is_among ranks r) → r < count

-- each of these is the number of a rank
abbrev pub AreRanks : List ℕ → Cluster → Type 0
AreRanks ranks cluster = AreBelow ranks (length cluster.ranks)

-- whichever ranks are stuck together are among these
abbrev pub HasStuck : List ℕ → Cluster → Type 0
HasStuck ranks cluster =
    (others : List ℕ) → AreRanks others cluster → AreStuck others cluster → OnlyOf (is_among ranks) (is_among others)

-- these numbers of ranks, in rising order, are the most that are stuck together, and they are in a deadlock: a hart of
-- theirs waits, and no run of the machine lets any of them go on
pub record IsFound (ranks : List ℕ) (cluster : Cluster) : Type 0 where
  pub are_ranks : AreRanks ranks cluster
  pub rising : IsStrictlyIncreasing ranks
  pub stuck : AreStuck ranks cluster
  pub most : HasStuck ranks cluster
  pub deadlock : IsDeadlock ranks cluster

-- of whichever ranks are stuck together no hart waits
abbrev pub IsNoneFound : Cluster → Type 0
IsNoneFound cluster =
    (ranks : List ℕ) → AreRanks ranks cluster → AreStuck ranks cluster → ¬ SomeWaits ranks cluster

abbrev pub IsVerdictOf : Cluster → Option (List ℕ) → Type 0
IsVerdictOf cluster (Some ranks) = IsFound ranks cluster
IsVerdictOf cluster None = IsNoneFound cluster

-- what is told of a state that was reached from an image
abbrev pub IsDeadlockVerdict : ClusterState → Option (List ℕ) → Type 0
IsDeadlockVerdict state found =
    (image : ImageParts) (cluster : Cluster) → IsStateOf image state cluster → IsVerdictOf cluster found

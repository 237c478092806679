-- The laws of ranks that are stuck.
use Rattle.std.specs.Prelude.{ℕ, ◌<◌, ◌≡◌, ◌⊎◌, IsTrue, List, ◌++◌, length, Some, slice_get}
use Rattle.rv_image_types.specs.declared.images.ImageParts.{ImageParts}
use Rattle.mp_wait_laws.specs.Waits.{OnlyOf}
use Rattle.cl_state.specs.Rank.{Rank}
use Rattle.cl_state_laws.specs.Vain.{IsStopped, mode_of}
use Rattle.cl_machine.specs.Cluster.{Cluster}
use Rattle.cl_deadlock_laws.specs.Stuck.{is_among, SomeWaits, IsDeadlock, IsStuckHart, AreStuck, IsReachable}

-- ranks of which the rule holds are stuck for good: a deadlock, if one of their harts waits
abbrev pub DeadlockLaw : Type 0
DeadlockLaw =
    (image : ImageParts) (cluster : Cluster) (ranks : List ℕ) → IsReachable image cluster → AreStuck ranks cluster
    → SomeWaits ranks cluster → IsDeadlock ranks cluster

-- ranks that are stuck together with some, or with others, are stuck together with all: so there are the most that are
abbrev pub UnionLaw : Type 0
UnionLaw =
    (some others : List ℕ) (cluster : Cluster) → AreStuck some cluster → AreStuck others cluster
    → AreStuck (some ++ others) cluster

-- each hart of the rank is stopped, or held beside these
abbrev pub IsStuckBeside : List ℕ → Cluster → ℕ → Type 0
IsStuckBeside ranks cluster r =
    (rank : Rank) (hart : ℕ) → slice_get cluster.ranks r ≡ Some rank → hart < length rank.harts
    → IsStopped (mode_of rank hart) ⊎ IsStuckHart ranks cluster r rank hart

-- who isn't stuck beside a company is stuck in no part of it: so the most are found by leaving out whoever isn't stuck
-- beside the rest, until nobody is left out
abbrev pub NarrowLaw : Type 0
NarrowLaw =
    (all some : List ℕ) (cluster : Cluster) (r : ℕ) → OnlyOf (is_among all) (is_among some)
    → ¬ IsStuckBeside all cluster r → AreStuck some cluster → ¬ IsTrue (is_among some r)

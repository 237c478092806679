-- Runs that ended in a deadlock.
use Rattle.std.specs.Prelude.{ℕ, ◌≡◌, ◌≢◌, ◌⊎◌, IsTrue, List, Some, slice_get}
use Rattle.rv_image_types.specs.declared.images.ImageParts.{ImageParts}
use Rattle.cl_deadlock.specs.Why.{IsFound}
use Rattle.cl_deadlock_laws.specs.Stuck.{is_among}
use Rattle.cl_machine.specs.Cluster.{Cluster, IsRun, loaded_cluster}
use Rattle.cl_machine.specs.Merge.{IsMerge}
use Rattle.cl_machine.specs.declared.steps.Step.{Step}
use Rattle.cl_rank.specs.declared.stops.Stop.{Stop}
use Rattle.cl_record.specs.Records.{steps_in}
use Rattle.cl_record.specs.declared.records.Record.{Record}

-- the events of a record, in order of their stamps, lead from the loaded cluster to one in which these ranks are in a
-- deadlock: no run of the machine from there lets any of them go on. They are the most that are stuck together
pub record IsDeadEnd (image : ImageParts) (left : Record) (ranks : List ℕ) : Type 0 where
  pub steps : List Step
  pub sorted : IsMerge (steps_in left) steps
  pub final : Cluster
  pub run : IsRun (loaded_cluster image) steps final
  pub found : IsFound ranks final

-- each rank that stopped for another cause than that all its harts are stopped is among these
abbrev pub HasAll : List ℕ → List Stop → Type 0
HasAll ranks stops =
    (r : ℕ) (stop : Stop) → slice_get stops r ≡ Some stop → stop ≢ Stop.AllEnded → IsTrue (is_among ranks r)

-- such ranks are in a deadlock, all of them
pub record IsStuckAt (image : ImageParts) (left : Record) : Type 0 where
  pub ranks : List ℕ
  pub dead_end : IsDeadEnd image left ranks
  pub all : HasAll ranks left.stops.items

-- the events of a record, in order of their stamps, lead to a cluster in which some such rank could go on: whichever ranks
-- are found to be in a deadlock there, one that isn't among them stopped for another cause than that its harts are stopped
pub record IsNotStuckAt (image : ImageParts) (left : Record) : Type 0 where
  pub steps : List Step
  pub sorted : IsMerge (steps_in left) steps
  pub final : Cluster
  pub run : IsRun (loaded_cluster image) steps final
  pub goes_on : (ranks : List ℕ) → IsFound ranks final → ¬ HasAll ranks left.stops.items

-- a run that its plans ended: each rank stopped because all its harts are stopped, or some rank could go on
abbrev pub IsFreeEnd : ImageParts → Record → Type 0
IsFreeEnd image left =
    ((r : ℕ) (stop : Stop) → slice_get left.stops.items r ≡ Some stop → stop ≡ Stop.AllEnded) ⊎ IsNotStuckAt image left

-- A law of verdicts.
use Rattle.std.specs.Prelude.{ℕ, ◌≡◌, List, Option}
use Rattle.rv_image_types.specs.declared.images.ImageParts.{ImageParts}
use Rattle.cl_replay.specs.Below.{Cluster}
use Rattle.cl_replay.specs.declared.states.ClusterState.{ClusterState}
use Rattle.cl_deadlock.specs.Why.{IsStateOf, IsDeadlockVerdict}

-- a state has one verdict
abbrev pub OneVerdictLaw : Type 0
OneVerdictLaw =
    (image : ImageParts) (state : ClusterState) (cluster : Cluster) (one other : Option (List ℕ))
    → IsStateOf image state cluster → IsDeadlockVerdict state one → IsDeadlockVerdict state other → one ≡ other

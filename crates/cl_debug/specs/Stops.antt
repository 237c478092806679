-- What is found of the places of a record on the way.
use Rattle.std.specs.Prelude.{ℕ, List}
use Rattle.rv_image_types.specs.declared.images.ImageParts.{ImageParts}
use Rattle.cl_machine.specs.declared.steps.Step.{Step}
use Rattle.cl_replay.specs.declared.states.ClusterState.{ClusterState}
use Rattle.cl_replay.specs.Replaying.{IsReached}
use Rattle.cl_debug.specs.Places.{IsBreakPlace, IsStop}
use Rattle.cl_debug.specs.declared.breaks.Break.{Break}

-- of whichever image the state is the cluster at place n, a run of it stops there
abbrev pub IsStopPlace : ClusterState → List Step → List Break → ℕ → Type 0
IsStopPlace state steps breaks n =
    (image : ImageParts) → IsReached image steps n state → IsBreakPlace image steps breaks n

-- and here it doesn't
abbrev pub IsNoStop : ClusterState → List Step → List Break → ℕ → Type 0
IsNoStop state steps breaks n =
    (image : ImageParts) → IsReached image steps n state → ¬ IsBreakPlace image steps breaks n

-- of whichever image the old state is the cluster at the one place, a run leads from there to the other, where the
-- cluster is the new state
abbrev pub StopsAt : List Step → List Break → ℕ → ClusterState → ℕ → ClusterState → Type 0
StopsAt steps breaks from old to new =
    (image : ImageParts) → IsReached image steps from old
    → IsReached image steps to new × IsStop image steps breaks from to

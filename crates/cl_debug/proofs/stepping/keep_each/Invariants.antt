use Rattle.rv_image_types.specs.declared.images.ImageParts.{ImageParts}
use Rattle.cl_machine.specs.Cluster.{loaded_cluster}
use Rattle.cl_replay.specs.States.{ClusterStandsFor}
use Rattle.cl_debug.proofs.Keeping.{KeptSoFar}
use Rattle.cl_debug.proofs.stepping.keep_each.Given as goal

abbrev pub invariant-loop-k : goal.invariant-loop-k
invariant-loop-k l =
    (image : ImageParts) → ClusterStandsFor image l.fn.state (loaded_cluster image)
    → KeptSoFar image l.steps l.spacing l.k l.kept.items l.state

use Rattle.std.proofs.Common.{ℕ, IsTrue, take}
use Rattle.rv_image_types.specs.declared.images.ImageParts.{ImageParts}
use Rattle.cl_replay.specs.Below.{Cluster}
use Rattle.cl_replay.specs.States.{ClusterStandsFor}
use Rattle.cl_deadlock_laws.specs.Stuck.{is_among}
use Rattle.cl_deadlock.proofs.Waits.{Waits}
use Rattle.cl_deadlock.proofs.verdicts.some_waits.Given as goal

-- of the ranks so far none has a hart that waits
abbrev pub invariant-loop-place : goal.invariant-loop-place
invariant-loop-place l =
    (r : ℕ) → IsTrue (is_among (take l.place l.among) r)
    → (image : ImageParts) (cluster : Cluster) → ClusterStandsFor image l.state cluster → Waits cluster r → ⊥

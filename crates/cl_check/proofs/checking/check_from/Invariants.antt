use Rattle.std.proofs.Common.{◌≤◌, ◌-◌, length}
use Rattle.std.specs.Prelude.{take}
use Rattle.rv_image_types.specs.declared.images.ImageParts.{ImageParts}
use Rattle.cl_machine.specs.Order.{InOrder}
use Rattle.cl_machine.specs.declared.steps.Step.{Step}
use Rattle.cl_replay.specs.Replaying.{IsReached}
use Rattle.cl_check.proofs.checking.check_from.Given as goal

abbrev pub invariant-loop-n : goal.invariant-loop-n
invariant-loop-n l =
    ((image : ImageParts) → IsReached image l.steps 0 l.fn.state
    → IsReached image l.steps l.n l.state
    × InOrder (λ (e : Step). e.stamp) (λ (e : Step). e.rank) (take l.n l.steps))
    × (l.n ≤ length l.steps)

abbrev pub decreases-loop-n : goal.decreases-loop-n
decreases-loop-n l = length l.steps - l.n

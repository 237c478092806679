use Rattle.rv_image_types.specs.declared.images.ImageParts.{ImageParts}
use Rattle.cl_moves.specs.Standing.{IsStart}
use Rattle.cl_explore.proofs.Following.{LedSoFar}
use Rattle.cl_explore.proofs.orders.take_turns.Given as goal

-- the turns before this one lead there
abbrev pub invariant-loop-place : goal.invariant-loop-place
invariant-loop-place l =
    (image : ImageParts) → IsStart image l.fn.standing → LedSoFar image l.course.order.now l.turns l.place l.standing

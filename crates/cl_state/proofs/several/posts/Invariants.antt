use Rattle.std.proofs.Common.{◌≡◌, ◌++◌, length}
use Rattle.cl_state.specs.Several.{pendings, posts_pending}
use Rattle.cl_state.proofs.several.posts.Given as goal

abbrev pub invariant-loop-handle : goal.invariant-loop-handle
invariant-loop-handle l =
    l.posts.items ++ posts_pending (pendings l.requests l.rest) ≡ posts_pending (pendings l.requests l.handles)

abbrev pub decreases-loop-handle : goal.decreases-loop-handle
decreases-loop-handle l = length l.rest

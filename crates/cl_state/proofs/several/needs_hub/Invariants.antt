use Rattle.std.proofs.Common.{◌≡◌, length}
use Rattle.cl_state.specs.Several.{has_posts, pendings, posts_pending}
use Rattle.cl_state.proofs.several.needs_hub.Given as goal

abbrev pub invariant-loop-handle : goal.invariant-loop-handle
invariant-loop-handle l =
    has_posts (posts_pending (pendings l.requests l.handles)) ≡ has_posts (posts_pending (pendings l.requests l.rest))

abbrev pub decreases-loop-handle : goal.decreases-loop-handle
decreases-loop-handle l = length l.rest

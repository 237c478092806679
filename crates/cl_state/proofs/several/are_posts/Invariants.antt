use Rattle.std.proofs.Common.{◌≡◌, ◌↔◌, length}
use Rattle.cl_state.specs.Several.{pendings, posts_pending}
use Rattle.cl_state.proofs.several.are_posts.Given as goal

-- what is left is of those behind exactly where all that is known is of all
abbrev pub invariant-loop-handle : goal.invariant-loop-handle
invariant-loop-handle l =
    (l.left ≡ posts_pending (pendings l.requests l.rest)) ↔ (l.known ≡ posts_pending (pendings l.requests l.handles))

abbrev pub decreases-loop-handle : goal.decreases-loop-handle
decreases-loop-handle l = length l.rest

use Rattle.std.proofs.Common.{◌≡◌, ◌+◌, ◌≤◌, length}
use Rattle.cl_state.specs.Several.{pendings, posts_pending}
use Rattle.cl_state.proofs.several.count_posts.Given as goal

abbrev pub invariant-loop-handle : goal.invariant-loop-handle
invariant-loop-handle l = record {
  count : l.count + length (posts_pending (pendings l.requests l.rest)) ≡ length (posts_pending (pendings l.requests l.handles));
  few : l.count + length l.rest ≤ length l.handles;
}

abbrev pub decreases-loop-handle : goal.decreases-loop-handle
decreases-loop-handle l = length l.rest

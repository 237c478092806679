use Rattle.std.proofs.Common.{◌≡◌, length}
use Rattle.cl_state.specs.Several.{completed_each}
use Rattle.cl_state.proofs.several.close_all.Given as goal

abbrev pub invariant-loop-handle : goal.invariant-loop-handle
invariant-loop-handle l = completed_each l.initial.requests l.handles ≡ completed_each l.requests l.rest

abbrev pub decreases-loop-handle : goal.decreases-loop-handle
decreases-loop-handle l = length l.rest

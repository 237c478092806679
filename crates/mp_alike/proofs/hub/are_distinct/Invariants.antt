use Rattle.std.proofs.Common.{◌≡◌, length}
use Rattle.mp_hub.specs.Hub.{are_distinct}
use Rattle.mp_alike.proofs.hub.are_distinct.Given as goal

abbrev pub invariant-loop-post : goal.invariant-loop-post
invariant-loop-post l = are_distinct l.posts ≡ are_distinct l.rest

abbrev pub decreases-loop-post : goal.decreases-loop-post
decreases-loop-post l = length l.rest

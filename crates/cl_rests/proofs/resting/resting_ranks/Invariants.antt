use Rattle.std.proofs.Common.{ℕ, ◌≡◌, ◌&&◌, nat_lt}
use Rattle.rv_image_types.specs.declared.images.ImageParts.{ImageParts}
use Rattle.cl_order_laws.specs.Closed.{Node}
use Rattle.cl_moves.specs.Standing.{StandsAt}
use Rattle.cl_rest_laws.specs.Rests.{rests}
use Rattle.cl_rests.specs.Sets.{in_set}
use Rattle.cl_rests.proofs.resting.resting_ranks.Given as goal

-- of the ranks so far those that rest are in the set
abbrev pub invariant-loop-rank : goal.invariant-loop-rank
invariant-loop-rank l =
    (image : ImageParts) (here : Node) → StandsAt image l.standing here
    → (r : ℕ) → in_set l.ranks r ≡ nat_lt r l.rank && rests here.cluster r 0

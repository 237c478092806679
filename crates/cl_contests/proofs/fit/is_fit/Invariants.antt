use Rattle.std.proofs.Common.{ℕ, ◌<◌, ◌≡◌, Some, slice_get}
use Rattle.rv_image_types.specs.declared.images.ImageParts.{ImageParts}
use Rattle.cl_state.specs.Room.{rank_of}
use Rattle.cl_state.specs.declared.state.RankState.{RankState}
use Rattle.cl_order_laws.specs.Closed.{Node}
use Rattle.cl_moves.specs.Standing.{StandsAt}
use Rattle.cl_contests.specs.Fits.{IsFitRank}
use Rattle.cl_contests.specs.Kept.{search_of}
use Rattle.cl_contests.proofs.fit.is_fit.Given as goal

-- the ranks before this one are fit
abbrev pub invariant-loop-rank : goal.invariant-loop-rank
invariant-loop-rank l =
    (image : ImageParts) (here : Node) → StandsAt image l.standing here → (r : ℕ) → r < l.rank
    → (own : RankState) → slice_get l.state.ranks.items r ≡ Some own
    → IsFitRank (search_of l.patterns.may_wait l.patterns.kept.items) here.cluster r (rank_of own)

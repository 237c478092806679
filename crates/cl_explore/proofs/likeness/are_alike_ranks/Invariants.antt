use Rattle.std.proofs.Common.{ℕ, ◌<◌, ◌≡◌, Some, map, slice_get}
use Rattle.mp_alike_laws.specs.Renaming.{Renaming}
use Rattle.mp_alike.specs.Names.{IsListed}
use Rattle.cl_state.specs.Rank.{Rank}
use Rattle.cl_state.specs.Room.{rank_of}
use Rattle.cl_order_laws.specs.Alike.{AlikeRanks}
use Rattle.cl_explore.specs.Likeness.{HaveSameSites}
use Rattle.cl_explore.proofs.likeness.are_alike_ranks.Given as goal

-- those before this one are alike
abbrev pub invariant-loop-rank : goal.invariant-loop-rank
invariant-loop-rank l =
    (naming : Renaming) → IsListed naming l.names → HaveSameSites (map rank_of l.ranks) l.kept → (i : ℕ) → i < l.rank
    → (x y : Rank) → slice_get (map rank_of l.ranks) i ≡ Some x → slice_get l.kept i ≡ Some y → AlikeRanks naming x y

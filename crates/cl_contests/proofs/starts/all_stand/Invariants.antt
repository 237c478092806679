use Rattle.std.proofs.Common.{ℕ, ◌<◌, ◌≡◌, Some, slice_get}
use Rattle.cl_state.specs.Room.{rank_of}
use Rattle.cl_state.specs.declared.state.RankState.{RankState}
use Rattle.cl_state_laws.specs.Awake.{StandsAtCall}
use Rattle.cl_contests.proofs.starts.all_stand.Given as goal

-- the first harts of the ranks before this one stand so
abbrev pub invariant-loop-own : goal.invariant-loop-own
invariant-loop-own l =
    (r : ℕ) → r < l.own-index → (own : RankState) → slice_get l.ranks r ≡ Some own → StandsAtCall (rank_of own) 0

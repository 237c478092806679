use Rattle.std.proofs.Common.{ℕ, ◌<◌, ◌≡◌, Some, slice_get, true}
use Rattle.cl_state.specs.declared.state.RankState.{RankState}
use Rattle.cl_contests.specs.Kept.{search_of}
use Rattle.cl_contests.specs.Turns.{AsksWithin}
use Rattle.cl_contests.proofs.first.all_within.Given as goal

-- the ranks before this one ask within the patterns
abbrev pub invariant-loop-rank : goal.invariant-loop-rank
invariant-loop-rank l =
    l.within ≡ true → (r : ℕ) → r < l.rank → (own : RankState) → slice_get l.standing.cluster.ranks.items r ≡ Some own
    → AsksWithin (search_of l.patterns.may_wait l.patterns.kept.items) r own

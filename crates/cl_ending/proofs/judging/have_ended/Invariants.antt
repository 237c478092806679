use Rattle.std.specs.Prelude.{ℕ, ◌≡◌, ◌<◌, Some, slice_get}
use Rattle.cl_rank.specs.declared.stops.Stop.{Stop}
use Rattle.cl_ending.proofs.judging.have_ended.Given as goal

-- those so far have
abbrev pub invariant-loop-rank : goal.invariant-loop-rank
invariant-loop-rank l = (r : ℕ) (stop : Stop) → r < l.rank → slice_get l.stops r ≡ Some stop → stop ≡ Stop.AllEnded

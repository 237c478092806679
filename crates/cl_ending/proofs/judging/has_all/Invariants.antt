use Rattle.std.specs.Prelude.{ℕ, ◌≡◌, ◌≢◌, ◌<◌, IsTrue, Some, slice_get}
use Rattle.cl_deadlock_laws.specs.Stuck.{is_among}
use Rattle.cl_rank.specs.declared.stops.Stop.{Stop}
use Rattle.cl_ending.proofs.judging.has_all.Given as goal

-- those so far are there
abbrev pub invariant-loop-rank : goal.invariant-loop-rank
invariant-loop-rank l =
    (r : ℕ) (stop : Stop) → r < l.rank → slice_get l.stops r ≡ Some stop → stop ≢ Stop.AllEnded
    → IsTrue (is_among l.among r)

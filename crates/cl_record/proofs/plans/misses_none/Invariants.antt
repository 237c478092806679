use Rattle.std.proofs.Common.{ℕ, ◌<◌, Contains}
use Rattle.cl_record.proofs.plans.misses_none.Given as goal

abbrev pub invariant-loop-rank : goal.invariant-loop-rank
invariant-loop-rank l = (r : ℕ) → r < l.rank → Contains l.order r

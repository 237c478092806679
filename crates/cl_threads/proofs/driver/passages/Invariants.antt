use Rattle.std.proofs.Common.{◌≡◌, length}
use Rattle.cl_threads.proofs.driver.passages.Given as goal

abbrev pub invariant-loop-rank : goal.invariant-loop-rank
invariant-loop-rank g l = length l.all.items ≡ l.rank

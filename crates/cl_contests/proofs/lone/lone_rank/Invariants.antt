use Rattle.cl_contests.specs.Lone.{AreStillBelow}
use Rattle.cl_contests.proofs.lone.lone_rank.Given as goal

abbrev pub invariant-loop-rank : goal.invariant-loop-rank
invariant-loop-rank l = AreStillBelow l.standing l.lone l.rank

use Rattle.std.proofs.Common.{true}
use Rattle.cl_contests.specs.Turns.{GoesInVain}
use Rattle.cl_contests.proofs.polls.poll_all.Given as goal

abbrev pub invariant-loop-rank : goal.invariant-loop-rank
invariant-loop-rank l = GoesInVain l.fn.standing l.standing true

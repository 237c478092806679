use Rattle.cl_contests.specs.Kept.{search_of}
use Rattle.cl_contests.specs.Turns.{GoesAlone}
use Rattle.cl_contests.proofs.alone.each_alone.Given as goal

abbrev pub invariant-loop-rank : goal.invariant-loop-rank
invariant-loop-rank l = GoesAlone (search_of l.patterns.may_wait l.patterns.kept.items) l.fn.standing l.standing

use Rattle.cl_contests.proofs.Passing.{MayBeginBelow}
use Rattle.cl_contests.proofs.patterns.Patterns.may_initialise.Given as goal

-- the initialisation may pass what is asked by the patterns of other ranks before this one
abbrev pub invariant-loop-other : goal.invariant-loop-other
invariant-loop-other l = MayBeginBelow l.self.kept.items l.rank l.request l.other-index

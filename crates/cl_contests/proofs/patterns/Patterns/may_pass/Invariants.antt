use Rattle.cl_contests.proofs.Passing.{MayPassBelow}
use Rattle.cl_contests.proofs.patterns.Patterns.may_pass.Given as goal

-- the call may pass what is asked by the patterns of other ranks before this one
abbrev pub invariant-loop-other : goal.invariant-loop-other
invariant-loop-other l = MayPassBelow l.self.kept.items l.rank l.request l.other-index

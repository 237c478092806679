use Rattle.cl_contests.proofs.Passing.{MayMeetBelow}
use Rattle.cl_contests.proofs.patterns.Patterns.may_meet.Given as goal

-- the turn may pass what is asked by the patterns of other ranks before this one
abbrev pub invariant-loop-other : goal.invariant-loop-other
invariant-loop-other l = MayMeetBelow l.self.kept.items l.rank l.ask l.other-index

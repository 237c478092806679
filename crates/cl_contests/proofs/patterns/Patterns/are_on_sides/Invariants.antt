use Rattle.cl_contests.proofs.Passing.{AreOnSidesBelow}
use Rattle.cl_contests.proofs.patterns.Patterns.are_on_sides.Given as goal

-- the patterns before this one are on their sides
abbrev pub invariant-loop-asked : goal.invariant-loop-asked
invariant-loop-asked l = AreOnSidesBelow l.links l.self.kept.items l.asked-index

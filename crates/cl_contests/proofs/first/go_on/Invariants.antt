use Rattle.std.proofs.Common.{true}
use Rattle.cl_contests.specs.Kept.{search_of}
use Rattle.cl_contests.specs.Turns.{GoesWithin}
use Rattle.cl_contests.proofs.first.go_on.Given as goal

abbrev pub invariant-loop-round : goal.invariant-loop-round
invariant-loop-round l = GoesWithin (search_of l.patterns.may_wait l.patterns.kept.items) l.fn.standing l.standing true

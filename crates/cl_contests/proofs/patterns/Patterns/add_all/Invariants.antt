use Rattle.std.proofs.Common.{◌≡◌}
use Rattle.cl_contests.specs.Passing.{Keeps}
use Rattle.cl_contests.proofs.Passing.{HasBelow}
use Rattle.cl_contests.proofs.patterns.Patterns.add_all.Given as goal

-- those before this one were added, and nothing was lost
abbrev pub invariant-loop-asked : goal.invariant-loop-asked
invariant-loop-asked l = record {
  below : HasBelow l.others.kept.items l.self.kept.items l.asked-index;
  keeps : Keeps l.fn.self.kept.items l.self.kept.items;
  still : l.self.may_wait ≡ l.fn.self.may_wait;
}

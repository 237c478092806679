use Rattle.std.proofs.Common.{◌≡◌, ◌≤◌}
use Rattle.std.specs.Prelude.{max}
use Rattle.rv_memory.proofs.spares.SparePages.make_up_to.Given as goal

abbrev pub invariant-loop-made : goal.invariant-loop-made
invariant-loop-made l = (l.self ≡ l._made) × (l.before ≤ l._made) × (l._made ≤ max l.before l.count)

use Rattle.std.proofs.Common.{◌≤◌}
use Rattle.rvmc_changes.specs.Walking.{Makes}
use Rattle.rvmc_changes.proofs.walking.put_changes.Given as goal

-- those of the steps so far
abbrev pub invariant-loop-n : goal.invariant-loop-n
invariant-loop-n l = record {
  made : Makes l.steps l.from l.fn.state l.n l.state l.changes.items;
  most : l.n ≤ l.to;
}

use Rattle.std.proofs.Common.{◌≤◌}
use Rattle.std.specs.Prelude.{max}
use Rattle.rvmc_list.specs.Counting.{AreCounted}
use Rattle.rvmc_list.proofs.tables.count_steps.Given as goal

-- the steps so far are counted; where they end before they begin there are none
abbrev pub invariant-loop-n : goal.invariant-loop-n
invariant-loop-n l = record {
  counted : AreCounted l.image l.steps l.wanted.rank l.wanted.from l.n l.state l.fn.tables l.tables;
  most : l.n ≤ max l.wanted.from l.to;
}

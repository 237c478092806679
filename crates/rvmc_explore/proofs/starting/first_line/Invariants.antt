use Rattle.rvmc_explore.specs.Starting.{IsLine}
use Rattle.rvmc_explore.proofs.starting.first_line.Given as goal

abbrev pub invariant-loop-byte : goal.invariant-loop-byte
invariant-loop-byte l = IsLine l.line.items

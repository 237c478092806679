use Rattle.std.proofs.Common.{length}
use Rattle.std.specs.List.Sorted.{IsStrictlyIncreasing}
use Rattle.cl_deadlock.specs.Stuck.{HasStuckIn}
use Rattle.cl_deadlock.specs.Why.{AreBelow}
use Rattle.cl_deadlock.proofs.companies.stuck.Given as goal

-- whichever ranks are stuck together are left
abbrev pub invariant-rest : goal.invariant-rest
invariant-rest l = record {
  ranks : AreBelow l.among.items (length l.state.ranks.items);
  rising : IsStrictlyIncreasing l.among.items;
  most : HasStuckIn l.among.items l.state;
}

abbrev pub decreases-rest : goal.decreases-rest
decreases-rest l = length l.among.items

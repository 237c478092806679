use Rattle.std.proofs.Common.{length}
use Rattle.std.specs.List.Sorted.{IsStrictlyIncreasing}
use Rattle.cl_deadlock.specs.Why.{AreBelow}
use Rattle.cl_rests.specs.Held.{HasHeldUpIn}
use Rattle.cl_rests.proofs.buffering.held_up.Given as goal

-- whichever ranks are held up together are left
abbrev pub invariant-rest : goal.invariant-rest
invariant-rest l = record {
  ranks : AreBelow l.among.items (length l.standing.cluster.ranks.items);
  rising : IsStrictlyIncreasing l.among.items;
  most : HasHeldUpIn l.among.items l.standing;
}

abbrev pub decreases-rest : goal.decreases-rest
decreases-rest l = length l.among.items

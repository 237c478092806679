use Rattle.std.proofs.Common.{◌-◌, length}
use Rattle.rvmc_starts.proofs.PartsInTurn.{AreRead}
use Rattle.rvmc_starts.proofs.joining.parts_in.Given as goal

abbrev pub invariant-texts : goal.invariant-texts
invariant-texts l = AreRead l.bytes l.parts.items l.at

abbrev pub decreases-texts : goal.decreases-texts
decreases-texts l = length l.bytes - l.at

use Rattle.rv_asm.proofs.Reaching.{targets_are_reached}
use Rattle.rv_asm.proofs.laws.targets_are_reached.Goals as goal

pub returns : goal.returns
returns c = targets_are_reached

use Rattle.rv_asm.proofs.AddedUp.{parts_add_up}
use Rattle.rv_asm.proofs.laws.parts_add_up.Goals as goal

pub returns : goal.returns
returns c = parts_add_up c.args._source.now

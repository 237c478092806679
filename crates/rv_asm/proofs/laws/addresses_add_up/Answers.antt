use Rattle.rv_asm.proofs.Placed.{layout_placed}
use Rattle.rv_asm.proofs.laws.addresses_add_up.Goals as goal

pub returns : goal.returns
returns c = layout_placed c.args._source.now

use Rattle.rv_asm.proofs.Standing.{layout_stands}
use Rattle.rv_asm.proofs.laws.statements_stand_in_their_parts.Goals as goal

pub returns : goal.returns
returns c = layout_stands c.args._source.now

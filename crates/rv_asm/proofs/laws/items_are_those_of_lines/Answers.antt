use Rattle.rv_asm.proofs.Saying.{layout_said}
use Rattle.rv_asm.proofs.laws.items_are_those_of_lines.Goals as goal

pub returns : goal.returns
returns c = layout_said c.args._source.now

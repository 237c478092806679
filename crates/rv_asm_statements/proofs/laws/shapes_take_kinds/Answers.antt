use Rattle.rv_asm_statements.proofs.Taking.{shapes_take_kinds}
use Rattle.rv_asm_statements.proofs.laws.shapes_take_kinds.Goals as goal

pub returns : goal.returns
returns c = shapes_take_kinds

use Rattle.rv_asm_statements.proofs.Filling.{rows_are_filled}
use Rattle.rv_asm_statements.proofs.laws.rows_are_filled.Goals as goal

pub returns : goal.returns
returns c = rows_are_filled

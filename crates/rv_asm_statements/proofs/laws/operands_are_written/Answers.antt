use Rattle.rv_asm_statements.proofs.Written.{operands_are_written}
use Rattle.rv_asm_statements.proofs.laws.operands_are_written.Goals as goal

pub returns : goal.returns
returns c = operands_are_written

use Rattle.std.proofs.Common.{sym}
use Rattle.rv_asm_statements.proofs.RegisterNumbers.{register_small}
use Rattle.rv_asm_statements.proofs.registers.register.Goals as goal

pub new-requires : goal.new-requires
new-requires c = register_small c.args.name.now _ (sym c.in_ok-number.ensures)

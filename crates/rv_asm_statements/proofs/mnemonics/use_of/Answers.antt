use Rattle.std.proofs.Common.{sym}
use Rattle.rv_asm_statements.proofs.TooMany.{uses_all}
use Rattle.rv_asm_statements.proofs.mnemonics.use_of.Goals as goal

pub returns-in-Some : goal.returns-in-Some
returns-in-Some c = uses_all _ _ c.args.name.now c.rows_like.ensures.uses _ _ c.use_in.ensures (sym c.in-Some.ensures)

use Rattle.rv_asm_statements.proofs.Alike.{uses_empty, named_empty}
use Rattle.rv_asm_statements.proofs.mnemonics.rows_like.Goals as goal

pub returns-in-None-clause-uses : goal.returns-in-None-clause-uses
returns-in-None-clause-uses c = λ xs. uses_empty c.args.name.now c.in-None.ensures xs

pub returns-in-None-clause-named : goal.returns-in-None-clause-named
returns-in-None-clause-named c = named_empty c.args.name.now c.in-None.ensures

pub returns-in-Some-clause-uses : goal.returns-in-Some-clause-uses
returns-in-Some-clause-uses c = λ xs. rw c.in-Some.ensures (c.rows_from.ensures.uses xs)

pub returns-in-Some-clause-named : goal.returns-in-Some-clause-named
returns-in-Some-clause-named c = rw c.in-Some.ensures c.rows_from.ensures.named

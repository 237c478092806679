use Rattle.std.proofs.Common.{map, sym}
use Rattle.rv_asm_statements.specs.CodeViews.{argument_view}
use Rattle.rv_asm_statements.specs.Walk.{first_given}
use Rattle.rv_asm_statements.specs.RowView.{row_view}
use Rattle.rv_asm_statements.specs.Mnemonics.{row_use}
use Rattle.rv_asm_statements.proofs.Walks.{given_passed, given_met, given_end}
use Rattle.rv_asm_statements.proofs.mnemonics.use_in.Goals as goal

pub returns-in-Some : goal.returns-in-Some
returns-in-Some c =
    let f = row_use c.args.name.now (map argument_view c.args.operands.now) in
    sym (given_met f row_view c.args.table.now c.loop-row.row-index _ _ (first_given f (map row_view c.args.table.now)) c.loop-row-test.true (sym (rw c.in-Some.is at c.use_of_row.ensures)) c.loop-row.invariant)

pub loop-row-preserved : goal.loop-row-preserved
loop-row-preserved c =
    let f = row_use c.args.name.now (map argument_view c.args.operands.now) in
    given_passed f row_view c.args.table.now c.loop-row.row-index _ (first_given f (map row_view c.args.table.now)) c.loop-row-test.true (sym (rw c.in_default.is at c.use_of_row.ensures)) c.loop-row.invariant

pub returns : goal.returns
returns c =
    let f = row_use c.args.name.now (map argument_view c.args.operands.now) in
    sym (given_end f row_view c.args.table.now c.loop-row.row-index (first_given f (map row_view c.args.table.now)) c.loop-row-test.false c.loop-row.invariant)

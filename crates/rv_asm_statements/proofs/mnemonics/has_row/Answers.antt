use Rattle.std.proofs.Common.{map, sym, ap, ◌∙◌, is_some}
use Rattle.rv_asm_statements.specs.Walk.{first_given}
use Rattle.rv_asm_statements.specs.RowView.{row_view}
use Rattle.rv_asm_statements.specs.Mnemonics.{row_named}
use Rattle.rv_asm_statements.proofs.Walks.{given_passed, given_met, given_end, named_other, named_this}
use Rattle.rv_asm_statements.proofs.mnemonics.has_row.Goals as goal

pub returns-then-is_same_name : goal.returns-then-is_same_name
returns-then-is_same_name c =
    let w = c.args.name.now in
    sym (ap is_some (given_met (row_named w) row_view c.args.table.now c.loop-row.row-index _ _ (first_given (row_named w) (map row_view c.args.table.now)) c.loop-row-test.true (named_this w _ (sym c.is_same_name.ensures ∙ c.if-is_same_name.true)) c.loop-row.invariant))

pub loop-row-preserved : goal.loop-row-preserved
loop-row-preserved c =
    let w = c.args.name.now in
    given_passed (row_named w) row_view c.args.table.now c.loop-row.row-index _ (first_given (row_named w) (map row_view c.args.table.now)) c.loop-row-test.true (named_other w _ (sym c.is_same_name.ensures ∙ c.if-is_same_name.false)) c.loop-row.invariant

pub returns : goal.returns
returns c =
    let w = c.args.name.now in
    sym (ap is_some (given_end (row_named w) row_view c.args.table.now c.loop-row.row-index (first_given (row_named w) (map row_view c.args.table.now)) c.loop-row-test.false c.loop-row.invariant))

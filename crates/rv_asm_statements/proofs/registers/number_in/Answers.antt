use Rattle.std.proofs.Common.{map, sym, ◌∙◌}
use Rattle.rv_asm_statements.specs.Walk.{beside, first_given}
use Rattle.rv_asm_statements.specs.CodeViews.{register_view}
use Rattle.rv_asm_statements.proofs.Walks.{given_passed, given_met, given_end, beside_other, beside_this}
use Rattle.rv_asm_statements.proofs.registers.number_in.Goals as goal

pub returns-then-is_same_name : goal.returns-then-is_same_name
returns-then-is_same_name c =
    let f = beside c.args.name.now in
    sym (given_met f register_view c.args.table.now c.loop-row.row-index _ _ (first_given f (map register_view c.args.table.now)) c.loop-row-test.true (beside_this c.args.name.now _ (sym c.is_same_name.ensures ∙ c.if-is_same_name.true)) c.loop-row.invariant)

pub loop-row-preserved : goal.loop-row-preserved
loop-row-preserved c =
    let f = beside c.args.name.now in
    given_passed f register_view c.args.table.now c.loop-row.row-index _ (first_given f (map register_view c.args.table.now)) c.loop-row-test.true (beside_other c.args.name.now _ (sym c.is_same_name.ensures ∙ c.if-is_same_name.false)) c.loop-row.invariant

pub returns : goal.returns
returns c =
    let f = beside c.args.name.now in
    sym (given_end f register_view c.args.table.now c.loop-row.row-index (first_given f (map register_view c.args.table.now)) c.loop-row-test.false c.loop-row.invariant)

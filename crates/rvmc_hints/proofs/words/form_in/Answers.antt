use Rattle.std.proofs.Common.{map, sym, ◌∙◌}
use Rattle.rv_asm_statements.specs.Walk.{beside, first_given}
use Rattle.rv_asm_statements.proofs.Walks.{given_passed, given_met, given_end, beside_other, beside_this}
use Rattle.rvmc_hints.specs.Rows.{form_view}
use Rattle.rvmc_hints.proofs.words.form_in.Goals as goal

pub returns-then-eq : goal.returns-then-eq
returns-then-eq c =
    let f = beside c.args.head.now in
    sym (given_met f form_view c.args.table.now c.loop-row.row-index _ _ (first_given f (map form_view c.args.table.now)) c.loop-row-test.true (beside_this c.args.head.now _ (sym c.eq.ensures ∙ c.if-eq.true)) c.loop-row.invariant)

pub loop-row-preserved : goal.loop-row-preserved
loop-row-preserved c =
    let f = beside c.args.head.now in
    given_passed f form_view c.args.table.now c.loop-row.row-index _ (first_given f (map form_view c.args.table.now)) c.loop-row-test.true (beside_other c.args.head.now _ (sym c.eq.ensures ∙ c.if-eq.false)) c.loop-row.invariant

pub returns : goal.returns
returns c =
    let f = beside c.args.head.now in
    sym (given_end f form_view c.args.table.now c.loop-row.row-index (first_given f (map form_view c.args.table.now)) c.loop-row-test.false c.loop-row.invariant)

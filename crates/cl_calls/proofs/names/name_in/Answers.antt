use Rattle.std.proofs.Common.{◌==◌, ap, option_map}
use Rattle.cl_calls.specs.Names.{row_view}
use Rattle.cl_calls.proofs.Numbers.{is_other, is_same}
use Rattle.cl_calls.proofs.Tables.{find_met, find_passed}
use Rattle.cl_calls.proofs.names.name_in.Goals as goal

pub returns-then-row-number : goal.returns-then-row-number
returns-then-row-number c =
    ap (option_map (λ row. row.1))
    (find_met (λ row. row.0 == c.args.number) row_view c.args.table.now c.loop-row.row-index _ c.loop-row-test.true (is_same _ _ c.if-row-number.true) c.loop-row.invariant)

pub loop-row-preserved : goal.loop-row-preserved
loop-row-preserved c =
    find_passed (λ row. row.0 == c.args.number) row_view c.args.table.now c.loop-row.row-index _ c.loop-row-test.true (is_other _ _ c.if-row-number.false) c.loop-row.invariant

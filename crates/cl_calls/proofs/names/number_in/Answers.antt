use Rattle.std.proofs.Common.{ap, sym, ◌∙◌, option_map}
use Rattle.std.specs.Str.{bytes_eq}
use Rattle.cl_calls.specs.Names.{row_view}
use Rattle.cl_calls.proofs.Tables.{find_met, find_passed}
use Rattle.cl_calls.proofs.names.number_in.Goals as goal

pub returns-then-eq : goal.returns-then-eq
returns-then-eq c =
    sym (ap (option_map (λ row. row.0))
    (find_met (λ row. bytes_eq row.1 c.args.name.now) row_view c.args.table.now c.loop-row.row-index _ c.loop-row-test.true
    (ap (λ b. bytes_eq b c.args.name.now) (sym c.as_bytes.ensures.value) ∙ sym c.eq.ensures ∙ c.if-eq.true) c.loop-row.invariant))

pub loop-row-preserved : goal.loop-row-preserved
loop-row-preserved c =
    find_passed (λ row. bytes_eq row.1 c.args.name.now) row_view c.args.table.now c.loop-row.row-index _ c.loop-row-test.true
    (ap (λ b. bytes_eq b c.args.name.now) (sym c.as_bytes.ensures.value) ∙ sym c.eq.ensures ∙ c.if-eq.false) c.loop-row.invariant

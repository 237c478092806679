use Rattle.std.proofs.Common.{◌≡◌, ◌+◌, ◌∷◌, drop, length, ap, arith}
use Rattle.std.proofs.lemmas.Iterator.Consumers.{YieldsList-turn, YieldsList-end}
use Rattle.std.proofs.lemmas.Iterator.Splits.{YieldsList-from_lines}
use Rattle.std.proofs.lemmas.List.{drop_all, length_push}
use Rattle.std.specs.Str.Lines.{lines}
use Rattle.rv_asm_lines.specs.Layout.{lines_from}
use Rattle.rv_asm_lines.specs.LayoutView.{layout_view}
use Rattle.rv_asm.proofs.LineCount.{lines_fit}
use Rattle.rv_asm.proofs.Steps.{line_at, line_stops, line_goes, lines_end}
use Rattle.rv_asm.proofs.assembling.take_lines.Goals as goal

pub overflow_add-number : goal.overflow_add-number
overflow_add-number c =
    let t = YieldsList-turn (YieldsList-from_lines c.args.source.now cc) c.loop-line.yielded _ c.loop-line.yielded_by _ _ c.in-Some.line c.in-Some.is c.next.ensures.steps in
    let most = lines_fit c.args.source.now in
    let size = ap length c.as_bytes-text.ensures.value in
    omega (arith, t.0, most, size, c.loop-line.invariant.0, c.as_bytes-text.type_inv.1)

pub returns-in-Err : goal.returns-in-Err
returns-in-Err c =
    let all = lines c.args.source.now in
    let n = c.loop-line.number in
    let t = YieldsList-turn (YieldsList-from_lines c.args.source.now cc) c.loop-line.yielded _ c.loop-line.yielded_by _ _ c.in-Some.line c.in-Some.is c.next.ensures.steps in
    let is : drop n all ≡ c.as_bytes.result.now ∷ drop (n + 1) all = line_at all n (length c.loop-line.yielded) c.in-Some.line.now c.as_bytes.result.now c.loop-line.invariant.0 t.0 t.1 c.as_bytes.ensures.value in
    line_stops (n + 1) (layout_view c.loop-line.layout) (drop n all) c.as_bytes.result.now (drop (n + 1) all) c.in-Err.kind (lines_from 1 (layout_view c.args.layout.now) (lines c.args.source.now)) is c.in-Err.ensures c.loop-line.invariant.1

pub loop-line-preserved : goal.loop-line-preserved
loop-line-preserved c =
    let all = lines c.args.source.now in
    let n = c.loop-line.number in
    let t = YieldsList-turn (YieldsList-from_lines c.args.source.now cc) c.loop-line.yielded _ c.loop-line.yielded_by _ _ c.in-Some.line c.in-Some.is c.next.ensures.steps in
    let is : drop n all ≡ c.as_bytes.result.now ∷ drop (n + 1) all = line_at all n (length c.loop-line.yielded) c.in-Some.line.now c.as_bytes.result.now c.loop-line.invariant.0 t.0 t.1 c.as_bytes.ensures.value in
    let more = length_push c.loop-line.yielded c.in-Some.line in
    (omega (arith, more, c.loop-line.invariant.0), line_goes (n + 1) (layout_view c.loop-line.layout) (layout_view c.take_line.new.layout) (drop n all) c.as_bytes.result.now (drop (n + 1) all) (lines_from 1 (layout_view c.args.layout.now) (lines c.args.source.now)) is c.in-Ok.ensures c.loop-line.invariant.1)

pub returns : goal.returns
returns c =
    let all = lines c.args.source.now in
    let n = c.loop-line.number in
    let t = YieldsList-end (YieldsList-from_lines c.args.source.now cc) c.loop-line.yielded _ c.loop-line.yielded_by _ _ c.in-None.is c.next.ensures.steps in
    lines_end (n + 1) (layout_view c.loop-line.layout) (drop n all) (lines_from 1 (layout_view c.args.layout.now) (lines c.args.source.now)) (drop_all n all (omega (arith, t.1, c.loop-line.invariant.0))) c.loop-line.invariant.1

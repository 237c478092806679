use Rattle.std.proofs.Common.{◌≡◌, ◌+◌, ◌<◌, ◌≤◌, ◌++◌, ◌∷◌, [], take, drop, get_or, length, subst, arith, sym, ap, ◌∙◌, List}
use Rattle.std.proofs.lemmas.List.{drop_all, take_all, take_more}
use Rattle.rv_asm_lines.specs.Item.{Item}
use Rattle.rv_asm_lines.specs.Output.{items_from}
use Rattle.rv_asm_lines.specs.LayoutView.{addresses_view, layout_view}
use Rattle.rv_asm_lines.specs.OutputView.{output_view}
use Rattle.rv_asm_lines.specs.Places.{AreSound}
use Rattle.rv_asm.proofs.Sound.{AreSound-push}
use Rattle.rv_asm.proofs.Steps.{cons_at, item_stops, item_goes, items_end}
use Rattle.rv_asm.proofs.assembling.take_items.Goals as goal

pub returns-in-Err : goal.returns-in-Err
returns-in-Err c =
    let items = c.args.layout.now.items.items in
    let i = c.loop-item.item-index in
    let x = c.item-item.result in
    let same : c.deref-item-items.result.now ≡ items = c.deref-item-items.ensures.value in
    let is : drop i items ≡ x ∷ drop (i + 1) items = ap (drop i) (sym same) ∙ cons_at c.deref-item-items.result.now i x c.loop-item-test.true ∙ ap (λ (y : Item). y ∷ drop (i + 1) c.deref-item-items.result.now) (sym c.item-item.is) ∙ ap (λ (ys : List Item). x ∷ drop (i + 1) ys) same in
    record { output = rw (c.line.ensures) (item_stops (layout_view c.args.layout.now) (output_view c.loop-item.output) (drop i items) x (drop (i + 1) items) c.in-Err.kind (items_from (layout_view c.args.layout.now) (output_view c.args.output.now) items) is c.in-Err.ensures.output c.loop-item.invariant.same); sound = tt }

pub loop-item-preserved : goal.loop-item-preserved
loop-item-preserved c =
    let items = c.args.layout.now.items.items in
    let labels = addresses_view c.args.layout.now in
    let i = c.loop-item.item-index in
    let x = c.item-item.result in
    let same : c.deref-item-items.result.now ≡ items = c.deref-item-items.ensures.value in
    let lt : i < length items = omega (arith, c.loop-item-test.true, ap length same) in
    let here : x ≡ get_or items i x = c.item-item.is ∙ ap (λ (ys : List Item). get_or ys i x) same in
    let is : drop i items ≡ x ∷ drop (i + 1) items = cons_at items i x lt ∙ ap (λ (y : Item). y ∷ drop (i + 1) items) (sym here) in
    let more : take (i + 1) items ≡ take i items ++ x ∷ [] = take_more items i x lt ∙ ap (λ (y : Item). take i items ++ y ∷ []) (sym here) in
    record {
      same = item_goes (layout_view c.args.layout.now) (output_view c.loop-item.output) (output_view c.take_item.new.output) (drop i items) x (drop (i + 1) items) (items_from (layout_view c.args.layout.now) (output_view c.args.output.now) items) is c.in-Ok.ensures.output c.loop-item.invariant.same;
      sound = subst (AreSound labels) (sym more) (AreSound-push labels (take i items) x c.loop-item.invariant.sound c.in-Ok.ensures.sound);
    }

pub returns : goal.returns
returns c =
    let items = c.args.layout.now.items.items in
    let labels = addresses_view c.args.layout.now in
    let i = c.loop-item.item-index in
    let same : c.deref-item-items.result.now ≡ items = c.deref-item-items.ensures.value in
    let le : length items ≤ i = omega (arith, c.loop-item-test.false, ap length same) in
    record {
      output = items_end (layout_view c.args.layout.now) (output_view c.loop-item.output) (drop i items) (items_from (layout_view c.args.layout.now) (output_view c.args.output.now) items) (drop_all i items le) c.loop-item.invariant.same;
      sound = subst (AreSound labels) (take_all i items le) c.loop-item.invariant.sound;
    }

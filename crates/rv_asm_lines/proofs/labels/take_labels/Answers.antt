use Rattle.std.proofs.Common.{◌≡◌, None, Some, is_some, sym, ◌∙◌, ap, true, false}
use Rattle.rv_asm_lines.specs.Layout.{Layout, place_in, labels_at}
use Rattle.rv_asm_lines.specs.LayoutView.{front_label, layout_view}
use Rattle.rv_asm_lines.proofs.LabelSteps.{labels_none, labels_twice, labels_go, none_from}
use Rattle.rv_asm_lines.proofs.labels.take_labels.Goals as goal

pub returns-in_default : goal.returns-in_default
returns-in_default c =
    let s = layout_view c.fronts.layout in
    let front : front_label c.fronts.tokens ≡ None = rw c.again-rest.ensures at c.in_default.ensures.value in
    sym c.fronts.invariant ∙ labels_none c.args.line s c.fronts.tokens front

pub returns-then-is_some : goal.returns-then-is_some
returns-then-is_some c =
    let s = layout_view c.fronts.layout in
    let there : is_some (place_in c.in-Some.name.now s.labels) ≡ true = ap is_some (sym c.find_place.ensures) ∙ sym c.if-is_some.ensures in
    let front : front_label c.fronts.tokens ≡ Some (c.in-Some.name.now, c.first_label.new.tokens) = rw c.again-rest.ensures at c.in-Some.ensures.value in
    sym c.fronts.invariant ∙ labels_twice c.args.line s c.fronts.tokens c.in-Some.name.now c.first_label.new.tokens front there

pub fronts-preserved : goal.fronts-preserved
fronts-preserved c =
    let s = layout_view c.fronts.layout in
    let whole = labels_at c.args.line (layout_view c.args.layout.now) c.args.tokens.now in
    let absent : is_some (place_in c.in-Some.name.now s.labels) ≡ false = ap is_some (sym c.find_place.ensures) ∙ sym c.if-is_some.ensures in
    let front : front_label c.fronts.tokens ≡ Some (c.in-Some.name.now, c.first_label.new.tokens) = rw c.again-rest.ensures at c.in-Some.ensures.value in
    ap (λ (l : Layout). labels_at c.args.line l c.first_label.new.tokens) c.in_ok-add_label.ensures ∙ labels_go c.args.line s c.fronts.tokens c.in-Some.name.now c.first_label.new.tokens whole front absent c.fronts.invariant

pub add_label-requires : goal.add_label-requires
add_label-requires c =
    let s = layout_view c.fronts.layout in
    none_from (place_in c.in-Some.name.now s.labels) (ap is_some (sym c.find_place.ensures) ∙ sym c.if-is_some.ensures)

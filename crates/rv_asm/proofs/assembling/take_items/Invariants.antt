use Rattle.std.proofs.Common.{◌≡◌, take, drop}
use Rattle.rv_asm_lines.specs.Output.{items_from}
use Rattle.rv_asm_lines.specs.LayoutView.{addresses_view, layout_view}
use Rattle.rv_asm_lines.specs.OutputView.{output_view}
use Rattle.rv_asm_lines.specs.Places.{AreSound}
use Rattle.rv_asm.proofs.assembling.take_items.Given as goal

-- what the items that are left come to, after those so far, is what all come to
abbrev pub invariant-loop-item : goal.invariant-loop-item
invariant-loop-item l = record {
  same : items_from (layout_view l.layout) (output_view l.output) (drop l.item-index l.layout.items.items) ≡ items_from (layout_view l.layout) (output_view l.fn.output) l.layout.items.items;
  sound : AreSound (addresses_view l.layout) (take l.item-index l.layout.items.items);
}

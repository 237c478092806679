use Rattle.std.proofs.Common.{◌≡◌, length}
use Rattle.rv_asm_lines.specs.Layout.{labels_at}
use Rattle.rv_asm_lines.specs.LayoutView.{layout_view}
use Rattle.rv_asm_lines.proofs.labels.take_labels.Given as goal

-- what is left comes to what all comes to
abbrev pub invariant-fronts : goal.invariant-fronts
invariant-fronts l = labels_at l.line (layout_view l.layout) l.tokens ≡ labels_at l.line (layout_view l.initial.layout) l.initial.tokens

abbrev pub decreases-fronts : goal.decreases-fronts
decreases-fronts l = length l.tokens

use Rattle.std.proofs.Common.{◌≡◌, ◌+◌, drop, length}
use Rattle.std.specs.Str.Lines.{lines}
use Rattle.rv_asm_lines.specs.Layout.{lines_from}
use Rattle.rv_asm_lines.specs.LayoutView.{layout_view}
use Rattle.rv_asm.proofs.assembling.take_lines.Given as goal

-- what the lines that are left come to, after those so far, is what all come to
abbrev pub invariant-loop-line : goal.invariant-loop-line
invariant-loop-line l =
    (l.number ≡ length l.yielded) × (lines_from (l.number + 1) (layout_view l.layout) (drop l.number (lines l.source)) ≡ lines_from 1 (layout_view l.fn.layout) (lines l.source))

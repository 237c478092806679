use Rattle.std.proofs.Common.{◌≡◌, ◌++◌, map}
use Rattle.rv_asm_lines.specs.Globals.{symbols_of}
use Rattle.rv_asm_lines.specs.LayoutView.{addresses_view, layout_view}
use Rattle.rv_asm.specs.Source.{symbols_in}
use Rattle.rv_asm.proofs.symbols.symbols_of.Given as goal

-- the symbols so far and those of the names that are left are all
abbrev pub invariant-loop-name : goal.invariant-loop-name
invariant-loop-name l = l.done.items ++ symbols_of (addresses_view l.layout) (map (λ w. w.items) l.name-iterator) ≡ symbols_in (layout_view l.layout)

-- How the loop that writes the symbols stands before each turn: those before this one are written.
use Rattle.std.proofs.Common.{◌≡◌, ◌++◌, take}
use Rattle.std.specs.List.{flat_map}
use Rattle.rv_image.specs.Text.{symbol_text}
use Rattle.rv_image.proofs.writing.put_symbols.Given as goal

abbrev pub invariant-loop-symbol : goal.invariant-loop-symbol
invariant-loop-symbol l = l.out.items ≡ l.fn.out.items ++ flat_map symbol_text (take l.symbol-index l.symbols)

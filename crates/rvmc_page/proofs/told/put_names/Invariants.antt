use Rattle.std.proofs.Common.{◌≡◌, ◌++◌, take}
use Rattle.std.specs.List.{flat_map}
use Rattle.rvmc_page.specs.Told.{symbol_entry}
use Rattle.rvmc_page.proofs.told.put_names.Given as goal

-- those so far
abbrev pub invariant-loop-symbol : goal.invariant-loop-symbol
invariant-loop-symbol l = l.text.items ≡ l.fn.text.items ++ flat_map symbol_entry (take l.symbol-index l.symbols)

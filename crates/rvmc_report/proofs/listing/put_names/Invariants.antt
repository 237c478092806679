use Rattle.std.proofs.Common.{◌≡◌, ◌++◌, take}
use Rattle.std.specs.List.{flat_map}
use Rattle.rvmc_report.specs.Listing.{name_line, symbols_at}
use Rattle.rvmc_report.proofs.listing.put_names.Given as goal

-- the names among the symbols so far
abbrev pub invariant-loop-symbol : goal.invariant-loop-symbol
invariant-loop-symbol l = l.lines.items ≡ l.fn.lines.items ++ flat_map name_line (symbols_at (take l.symbol-index l.symbols) l.address)

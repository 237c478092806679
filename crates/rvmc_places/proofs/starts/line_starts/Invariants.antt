use Rattle.std.proofs.Common.{◌≡◌, take}
use Rattle.rvmc_places.specs.Places.{line_starts}
use Rattle.rvmc_places.proofs.starts.line_starts.Given as goal

-- those of the symbols so far
abbrev pub invariant-loop-symbol : goal.invariant-loop-symbol
invariant-loop-symbol l = l.found.items ≡ line_starts l.file l.number (take l.symbol-index l.symbols)

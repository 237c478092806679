use Rattle.std.proofs.Common.{◌≡◌, drop}
use Rattle.rvmc_places.specs.Places.{line_start}
use Rattle.rvmc_places.proofs.starts.line_start.Given as goal

-- it is the first of the symbols that are left
abbrev pub invariant-loop-symbol : goal.invariant-loop-symbol
invariant-loop-symbol l =
    line_start l.file l.number l.symbols ≡ line_start l.file l.number (drop l.symbol-index l.symbols)

-- How the loop over the symbols stands before each turn: those before this one have other names.
use Rattle.std.proofs.Common.{◌≡◌, drop}
use Rattle.rvmc_advice.specs.Hints.{has_symbol}
use Rattle.rvmc_advice.proofs.hints.has_symbol.Given as goal

abbrev pub invariant-loop-symbol : goal.invariant-loop-symbol
invariant-loop-symbol l = has_symbol (drop l.symbol-index l.symbols) l.name ≡ has_symbol l.symbols l.name

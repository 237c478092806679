use Rattle.std.proofs.Common.{◌≡◌, drop}
use Rattle.std.specs.List.{filter}
use Rattle.std.specs.Option.{option_copied}
use Rattle.rvmc_places.specs.Places.{is_kind, nearest, nearest_from}
use Rattle.rvmc_places.proofs.near.nearest_of.Given as goal

-- the nearest of the symbols so far, and of those that are left
abbrev pub invariant-loop-symbol : goal.invariant-loop-symbol
invariant-loop-symbol l =
    nearest l.at (filter (is_kind l.wanted) l.symbols)
    ≡ nearest_from l.at (option_copied l.found) (filter (is_kind l.wanted) (drop l.symbol-index l.symbols))

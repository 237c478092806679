use Rattle.std.proofs.Common.{◌≡◌, ◌≤◌, drop}
use Rattle.std.specs.Prelude.{min}
use Rattle.rvmc_gdb.specs.Finding.{least_room, named_bytes}
use Rattle.rvmc_gdb.proofs.finding.named_bytes.Given as goal

-- the least so far, and what is left
abbrev pub invariant-loop-symbol : goal.invariant-loop-symbol
invariant-loop-symbol l =
    (l.count ≤ 8)
    × (named_bytes l.address l.symbols ≡ min l.count (least_room l.address (drop l.symbol-index l.symbols)))

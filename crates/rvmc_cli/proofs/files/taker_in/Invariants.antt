use Rattle.std.proofs.Common.{◌≡◌, drop, find, map}
use Rattle.std.specs.Str.{bytes_eq}
use Rattle.rvmc_cli.specs.Files.{taker_view}
use Rattle.rvmc_cli.proofs.files.taker_in.Given as goal

-- which row has the name is up to those that are left
abbrev pub invariant-loop-row : goal.invariant-loop-row
invariant-loop-row l =
    find (λ takes. bytes_eq l.name takes.command) (map taker_view l.table)
    ≡ find (λ takes. bytes_eq l.name takes.command) (map taker_view (drop l.row-index l.table))

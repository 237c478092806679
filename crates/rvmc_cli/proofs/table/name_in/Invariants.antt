use Rattle.std.proofs.Common.{◌≡◌, drop, find, map}
use Rattle.std.specs.Str.{bytes_eq}
use Rattle.rvmc_cli.proofs.table.name_in.Given as goal

-- which is the text is up to those that are left
abbrev pub invariant-loop-name : goal.invariant-loop-name
invariant-loop-name l =
    find (λ short. bytes_eq l.text short) (map (λ name. name.short.now) l.names)
    ≡ find (λ short. bytes_eq l.text short) (map (λ name. name.short.now) (drop l.name-index l.names))

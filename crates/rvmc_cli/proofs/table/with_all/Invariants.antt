use Rattle.std.proofs.Common.{map, take}
use Rattle.rvmc_cli.specs.App.{top_app, with_commands}
use Rattle.rvmc_cli.specs.Built.{StandsFor, app_below}
use Rattle.rvmc_cli.proofs.table.with_all.Given as goal

-- the commands so far
abbrev pub invariant-loop-name : goal.invariant-loop-name
invariant-loop-name l =
    StandsFor (with_commands top_app (map (λ name. app_below name.short.now) (take l.name-index l.names))) l.command

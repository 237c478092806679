use Rattle.std.proofs.Common.{subst, sym}
use Rattle.std.specs.Prelude.{IfOk}
use Rattle.std.proofs.lemmas.Result.{IfOk-weaker}
use Rattle.clap.specs.Words.{App}
use Rattle.rvmc_cli.specs.Built.{StandsFor, app_named}
use Rattle.rvmc_cli.specs.Commands.{commands, rvmc_app}
use Rattle.rvmc_cli.proofs.Building.{app_by_name, not_among, with_bin_name}
use Rattle.rvmc_cli.proofs.table.named.Goals as goal

pub returns-in_default : goal.returns-in_default
returns-in_default c =
    subst (λ (x : App). IfOk c.rvmc.result (StandsFor x))
    (sym (not_among commands rvmc_app c.args.name.now c.in_default.ensures)) c.rvmc.ensures

pub returns : goal.returns
returns c =
    let same = app_by_name c.args.name.now c.in-Some.found.now.short.now c.in-Some.ensures in
    let stands = subst (λ (x : App). StandsFor x c.in_ok-command.command) same c.in_ok-command.ensures in
    IfOk-weaker c.bin_name.result _ _ (λ new named. with_bin_name (app_named c.args.name.now) c.in_ok-command.command new stands named.0) c.bin_name.ensures

use Rattle.std.proofs.lemmas.Result.{IfOk-weaker}
use Rattle.rvmc_cli.proofs.Building.{with_bin_name, with_settings}
use Rattle.rvmc_cli.proofs.table.top.Goals as goal

pub returns : goal.returns
returns c =
    let set = with_settings _ _ _ c.version.result c.no_binary_name.result _ c.bare.ensures c.version.ensures c.no_binary_name.ensures c.subcommand_required.ensures in
    IfOk-weaker c.bin_name.result _ _ (λ new named. with_bin_name _ _ new set named.0) c.bin_name.ensures

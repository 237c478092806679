use Rattle.std.proofs.Common.{◌∙◌, Some, ap}
use Rattle.clap.specs.Words.{Rule}
use Rattle.rvmc_cli.proofs.Building.{takes_value}
use Rattle.rvmc_cli.proofs.parts.option.Goals as goal

pub returns-clause-rule : goal.returns-clause-rule
returns-clause-rule c =
    let shown = takes_value c.args.name c.args.value c.args.help c.new.result c.long.result c.value_name.result c.help.result c.long.ensures c.value_name.ensures c.help.ensures in
    shown ∙ ap (λ (rule : Rule). record rule { long = Some c.args.name.now; value_names = 1 }) c.new.ensures.rule

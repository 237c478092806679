use Rattle.std.proofs.lemmas.Result.{IfOk-weaker}
use Rattle.rvmc_cli.proofs.Building.{with_arg}
use Rattle.rvmc_cli.proofs.parts.with_part.Goals as goal

pub returns : goal.returns
returns c =
    IfOk-weaker c.arg.result _ _
    (λ new adds app stands. with_arg app _ _ new _ stands c.argument.ensures.rule c.argument.ensures.local adds) c.arg.ensures

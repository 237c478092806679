use Rattle.std.proofs.lemmas.Result.{IfOk-weaker}
use Rattle.rvmc_cli.proofs.parts.command.Goals as goal

pub returns : goal.returns
returns c = IfOk-weaker c.with_parts.result _ _ (λ new adds. adds _ c.bare.ensures) c.with_parts.ensures

use Rattle.std.proofs.lemmas.Result.{IfOk-weaker}
use Rattle.rvmc_cli.proofs.places.placed.Goals as goal

pub returns : goal.returns
returns c = IfOk-weaker c.with_parts.result _ _ (λ new adds. adds _ c.in_ok-command.ensures) c.with_parts.ensures

use Rattle.std.proofs.Common.{◌∙◌}
use Rattle.mp_match.proofs.Probed.{probed_alike}
use Rattle.mp_match.proofs.queues.Queues.probe.Goals as goal

pub returns-clause-claim : goal.returns-clause-claim
returns-clause-claim c = c.probe_for.ensures ∙ probed_alike c.args.self.now c.args.selection

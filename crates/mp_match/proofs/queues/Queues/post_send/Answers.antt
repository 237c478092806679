use Rattle.std.proofs.Common.{◌≤◌, sym, subst}
use Rattle.mp_match.specs.Board.{Board}
use Rattle.mp_match.proofs.Fronts.{few_compared}
use Rattle.mp_match.proofs.queues.Queues.post_send.Goals as goal

pub returns-in-Ok-clause-compared : goal.returns-in-Ok-clause-compared
returns-in-Ok-clause-compared c =
    subst (λ (b : Board). b.compared ≤ 4) (sym c.in-Ok.ensures.ok) (few_compared c.args.self.now.lines c.args.sent)

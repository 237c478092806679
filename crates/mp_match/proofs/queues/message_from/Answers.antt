use Rattle.std.proofs.Common.{Some, ap, ◌∙◌}
use Rattle.mp_match.specs.Board.{message_in}
use Rattle.mp_match.proofs.queues.message_from.Goals as goal

pub returns : goal.returns
returns c =
    c.message_of.ensures
    ∙ ap (λ e. message_in e (Some c.args.live.body)) (c.envelope_of.ensures c.args.live.line.partner)

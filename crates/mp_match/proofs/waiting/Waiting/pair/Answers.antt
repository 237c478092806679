use Rattle.std.proofs.Common.{ap, sym, ◌∙◌}
use Rattle.mp_match.specs.declared.posts.Post.{Post}
use Rattle.mp_match.specs.Queued.{queue}
use Rattle.mp_match.specs.Waiting.{receive_key}
use Rattle.mp_match.specs.Queues.{message_key}
use Rattle.mp_match.specs.InnerQueues.{popped}
use Rattle.mp_match.proofs.Partners.{partner_is}
use Rattle.mp_match.proofs.Queueing.{left, messages_alike, receives_alike}
use Rattle.mp_match.proofs.waiting.Waiting.pair.Goals as goal

pub returns-clause-messages : goal.returns-clause-messages
returns-clause-messages c = λ k.
    let ms = c.args._history.now.board.lines in
    let f = queue c.args.self.now.messages.map in
    let p = partner_is ms c.args._new c.args.partner c.requires.partner in
    c.leave.ensures.messages k
    ∙ ap (λ (x : Post). popped f (message_key x) k) (sym p.post)
    ∙ left message_key messages_alike f ms c.args._new c.requires.messages p.place p.line p.found p.here k

pub returns-clause-receives : goal.returns-clause-receives
returns-clause-receives c = λ k.
    let ms = c.args._history.now.board.lines in
    let f = queue c.args.self.now.receives.map in
    let p = partner_is ms c.args._new c.args.partner c.requires.partner in
    c.leave.ensures.receives k
    ∙ ap (λ (x : Post). popped f (receive_key x) k) (sym p.post)
    ∙ left receive_key receives_alike f ms c.args._new c.requires.receives p.place p.line p.found p.here k

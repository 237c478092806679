use Rattle.std.proofs.Common.{◌≡◌, refl, sym, ap, subst, Some, IfOk, OnOk, ◌∙◌}
use Rattle.std.specs.Prelude.{Option}
use Rattle.mp_types.specs.declared.messages.Message.{Message}
use Rattle.mp_match.specs.Board.{Board, receive_posted}
use Rattle.mp_match.proofs.Received.{copied, new_collected}
use Rattle.mp_match.proofs.queues.Queues.receive_with.Goals as goal

pub returns-in-Some-clause-message : goal.returns-in-Some-clause-message
returns-in-Some-clause-message c =
    let b = c.args.self.now in
    let found = sym c.in-Some.is ∙ c.find-found.ensures.partner in
    let same = copied b c.args.selection (Some c.in-Some.place) found
    ∙ ap (λ (x : Option Message × Board). x.0)
    (new_collected b c.args.selection (receive_posted b c.args.selection) (Some c.in-Some.place) refl found) in
    subst (λ (x : Option Message). IfOk c.receive_once.result (λ message. message ≡ x)) same c.receive_once.ensures.message

pub returns-in-Some-clause-after : goal.returns-in-Some-clause-after
returns-in-Some-clause-after c =
    let b = c.args.self.now in
    let found = sym c.in-Some.is ∙ c.find-found.ensures.partner in
    let same = ap (λ (x : Option Message × Board). x.1)
    (new_collected b c.args.selection (receive_posted b c.args.selection) (Some c.in-Some.place) refl found) in
    subst (λ (x : Board). OnOk c.receive_once.result (c.receive_once.new.self ≡ x)) same c.receive_once.ensures.after

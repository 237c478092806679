use Rattle.std.proofs.Common.{◌∙◌}
use Rattle.mp_match.specs.Queued.{queue}
use Rattle.mp_match.proofs.Wildcards.{least_partner, exact_partner, claim_partner}
use Rattle.mp_match.proofs.waiting.Waiting.message_for.Goals as goal

pub returns-in-Some-Some-clause-receive : goal.returns-in-Some-Some-clause-receive
returns-in-Some-Some-clause-receive c = λ ms h.
    c.front.ensures
    ∙ exact_partner (queue c.args.self.now.messages.map) ms c.args.selection c.in-Some-Some.field-0-0
    c.in-Some-Some.field-0-1 c.in-Some-Some.is-0 c.in-Some-Some.is-1 h

pub returns-in-Some-Some-clause-claim : goal.returns-in-Some-Some-clause-claim
returns-in-Some-Some-clause-claim c = λ ms h.
    c.front.ensures
    ∙ exact_partner (queue c.args.self.now.messages.map) ms c.args.selection c.in-Some-Some.field-0-0
    c.in-Some-Some.field-0-1 c.in-Some-Some.is-0 c.in-Some-Some.is-1 h
    ∙ claim_partner ms c.args.selection

pub returns-in_default-clause-receive : goal.returns-in_default-clause-receive
returns-in_default-clause-receive c = λ ms h.
    c.least_accepted.ensures.least
    ∙ least_partner c.args.self.now.messages.map ms c.args.selection h c.least_accepted.ensures.ordered

pub returns-in_default-clause-claim : goal.returns-in_default-clause-claim
returns-in_default-clause-claim c = λ ms h.
    c.least_accepted.ensures.least
    ∙ least_partner c.args.self.now.messages.map ms c.args.selection h c.least_accepted.ensures.ordered
    ∙ claim_partner ms c.args.selection

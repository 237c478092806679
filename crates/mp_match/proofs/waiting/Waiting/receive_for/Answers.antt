use Rattle.std.proofs.Common.{◌+◌, ap, slice_get, ◌∙◌}
use Rattle.mp_match.specs.declared.posts.Selection.{Selection}
use Rattle.mp_match.specs.Queued.{queue}
use Rattle.mp_match.specs.InnerQueued.{least}
use Rattle.mp_match.specs.Waiting.{one_if}
use Rattle.mp_match.proofs.Fronts.{send_partner, fronts_compared}
use Rattle.mp_match.proofs.waiting.Waiting.receive_for.Goals as goal

pub returns-clause-partner : goal.returns-clause-partner
returns-clause-partner c = λ ms h.
    let front = λ (k : Selection). slice_get (queue c.args.self.now.receives.map k) 0 in
    let exact = c.front-exact.ensures ∙ ap front c.key_of.ensures in
    let any_tag = c.front-any_tag.ensures ∙ ap front c.key_with.ensures in
    let any_source = c.front-any_source.ensures ∙ ap front c.key_with-2.ensures in
    let any = c.front-any.ensures ∙ ap front c.key_with-3.ensures in
    c.least_of-3.ensures
    ∙ (λ i. least (c.least_of.ensures i) (c.least_of-2.ensures i))
    ∙ (λ i. least (least (exact i) (any_tag i)) (least (any_source i) (any i)))
    ∙ send_partner (queue c.args.self.now.receives.map) ms h c.args.sent

pub returns-clause-compared : goal.returns-clause-compared
returns-clause-compared c = λ ms h.
    let front = λ (k : Selection). slice_get (queue c.args.self.now.receives.map k) 0 in
    let exact = c.one_if.ensures.value ∙ ap one_if (c.front-exact.ensures ∙ ap front c.key_of.ensures) in
    let any_tag = c.one_if-2.ensures.value ∙ ap one_if (c.front-any_tag.ensures ∙ ap front c.key_with.ensures) in
    let any_source =
    c.one_if-3.ensures.value ∙ ap one_if (c.front-any_source.ensures ∙ ap front c.key_with-2.ensures) in
    let any = c.one_if-4.ensures.value ∙ ap one_if (c.front-any.ensures ∙ ap front c.key_with-3.ensures) in
    (λ i. exact i + any_tag i + any_source i + any i)
    ∙ fronts_compared (queue c.args.self.now.receives.map) ms h c.args.sent

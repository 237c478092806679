use Rattle.std.proofs.Common.{rules, ap, ◌∙◌, not}
use Rattle.std.proofs.lemmas.Fn.{filter_same}
use Rattle.mp_probe.specs.Claims.{is_claim, without_claim}
use Rattle.mp_probe.proofs.handles.Claims.receive_claimed.Goals as goal

pub returns-clause-ok : goal.returns-clause-ok
returns-clause-ok c =
    filter_same _ (λ w. not (is_claim c.args.rank c.args.message w)) _
    (λ x b f r. search rules) _ _ c.retain.ensures.filtered
    ∙ ap (λ ws. without_claim ws c.args.rank c.args.message) c.self.view_is

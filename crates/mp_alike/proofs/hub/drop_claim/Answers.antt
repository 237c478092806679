use Rattle.std.proofs.Common.{rules, not}
use Rattle.std.proofs.lemmas.Fn.{filter_same}
use Rattle.mp_probe.specs.Claims.{is_claim}
use Rattle.mp_alike.proofs.hub.drop_claim.Goals as goal

pub returns : goal.returns
returns c =
    filter_same _ (λ w. not (is_claim c.args.rank c.args.message w)) _
    (λ x b f r. search rules) _ _ c.retain.ensures.filtered

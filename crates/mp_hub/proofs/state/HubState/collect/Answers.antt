use Rattle.std.proofs.Common.{sym, ap, ◌∙◌, subst}
use Rattle.mp_match.specs.Board.{Board}
use Rattle.mp_probe.specs.Claims.{is_waiting}
use Rattle.mp_hub.specs.Hub.{HubView}
use Rattle.mp_hub.specs.Held.{AreHeld}
use Rattle.mp_hub.proofs.Held.{held_collected, may_not_wait}
use Rattle.mp_hub.proofs.state.HubState.collect.Goals as goal

pub invariant_of-self : goal.invariant_of-self
invariant_of-self c =
    let i = c.self.invariant in
    let free = ap (λ (h : HubView). is_waiting h.claims c.args.post) c.self.view_is
    ∙ may_not_wait c.args.self.now c.args.rank c.args.post (sym c.may_collect.ensures ∙ c.if-not-may_collect.false) in (
      i.0,
      subst (λ (b : Board). AreHeld b c.self.inside.claims) (sym c.collect.ensures.after)
          (held_collected c.self.inside.queues c.self.inside.claims c.args.post i.1 free),
    )

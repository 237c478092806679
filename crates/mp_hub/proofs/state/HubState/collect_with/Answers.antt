use Rattle.std.proofs.Common.{sym, ap, ◌∙◌}
use Rattle.mp_match.specs.Board.{collect}
use Rattle.mp_probe.specs.Claims.{is_waiting}
use Rattle.mp_hub.specs.Hub.{HubView}
use Rattle.mp_hub.proofs.Held.{held_collected, held_on_ok, may_not_wait}
use Rattle.mp_hub.proofs.state.HubState.collect_with.Goals as goal

pub invariant_of-self : goal.invariant_of-self
invariant_of-self c =
    let i = c.self.invariant in
    let b = c.self.inside.queues in
    let free = ap (λ (h : HubView). is_waiting h.claims c.args.post) c.self.view_is
    ∙ may_not_wait c.args.self.now c.args.rank c.args.post (sym c.may_collect.ensures ∙ c.if-not-may_collect.false) in (
      i.0,
      held_on_ok c.taken_with.result b (collect b c.args.post).1 c.taken_with.new.queues c.self.inside.claims
          c.taken_with.ensures.after c.taken_with.ensures.err i.1
          (held_collected b c.self.inside.claims c.args.post i.1 free),
    )

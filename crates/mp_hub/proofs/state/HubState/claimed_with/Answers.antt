use Rattle.std.proofs.Common.{sym, ◌∙◌}
use Rattle.mp_hub.proofs.Held.{held_when_may}
use Rattle.mp_hub.proofs.state.HubState.claimed_with.Goals as goal

pub invariant_of-self-2 : goal.invariant_of-self-2
invariant_of-self-2 c =
    let i = c.self.invariant in (
      i.0,
      held_when_may c.self.inside.queues c.taken_with.new.queues c.self.inside.claims
          c.receive_claimed.new.self c.args.rank c.args.message
          (sym c.may_receive.ensures ∙ c.if-not-may_receive.false) c.in-Ok.ensures.ok c.in_ok-told.ensures.after i.1,
    )

use Rattle.std.proofs.Common.{sym, ◌∙◌}
use Rattle.mp_hub.proofs.Held.{held_when_taken}
use Rattle.mp_hub.proofs.state.HubState.claimed_now.Goals as goal

pub invariant_of-self-2 : goal.invariant_of-self-2
invariant_of-self-2 c =
    let i = c.self.invariant in
    let e = c.receive_claimed.ensures in (
      i.0,
      held_when_taken c.receive_claimed.result c.self.inside.queues c.collect.new.self c.self.inside.claims
          c.receive_claimed.new.self c.args.rank c.args.message (sym c.is_err.ensures.value ∙ c.if-is_err.false)
          e.bad_message e.ok c.collect.ensures.after i.1,
    )

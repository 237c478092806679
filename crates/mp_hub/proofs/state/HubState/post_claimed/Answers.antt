use Rattle.mp_hub.proofs.Held.{held_when_received}
use Rattle.mp_hub.proofs.state.HubState.post_claimed.Goals as goal

pub invariant_of-self-2 : goal.invariant_of-self-2
invariant_of-self-2 c =
    let i = c.self.invariant in
    let e = c.receive_claimed.ensures in (
      i.0,
      held_when_received c.receive_claimed.result c.self.inside.queues c.self.inside.claims c.receive_claimed.new.self
          c.args.rank c.args.message e.ok e.err i.1,
    )

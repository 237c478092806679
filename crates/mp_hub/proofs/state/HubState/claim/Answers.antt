use Rattle.mp_hub.proofs.Held.{held_after_claim}
use Rattle.mp_hub.proofs.state.HubState.claim.Goals as goal

pub invariant_of-self : goal.invariant_of-self
invariant_of-self c =
    let i = c.self.invariant in
    let e = c.claim.ensures in (
      i.0,
      held_after_claim c.claim.result c.self.inside.queues c.claim.new.queues c.self.inside.claims c.claim.new.self
          c.args.selection e.posted e.waiting e.queues_err e.err i.1,
    )

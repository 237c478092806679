use Rattle.mp_match.specs.Board.{receive_posted}
use Rattle.mp_hub.proofs.Held.{held_if_ok, held_posted}
use Rattle.mp_hub.proofs.state.HubState.post_recv.Goals as goal

pub invariant_of-self : goal.invariant_of-self
invariant_of-self c =
    let i = c.self.invariant in
    let b = c.self.inside.queues in (
      i.0,
      held_if_ok c.post_recv.result b (receive_posted b c.args.selection) c.post_recv.new.self c.self.inside.claims
          c.post_recv.ensures.ok c.post_recv.ensures.err i.1 (held_posted b c.self.inside.claims c.args.selection i.1),
    )

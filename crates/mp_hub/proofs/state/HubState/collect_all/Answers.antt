use Rattle.mp_hub.proofs.Held.{held_by_gathering}
use Rattle.mp_hub.proofs.state.HubState.collect_all.Goals as goal

pub invariant_of-self : goal.invariant_of-self
invariant_of-self c = (
  c.self.invariant.0,
  held_by_gathering _ _ c.args.rank c.args.posts.now _ c.self.view_is c.requires c.gather.ensures.after
      c.self.invariant.1,
)

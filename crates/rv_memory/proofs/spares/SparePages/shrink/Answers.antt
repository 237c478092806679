use Rattle.rv_memory.proofs.Paged.{blank-take}
use Rattle.rv_memory.proofs.spares.SparePages.shrink.Goals as goal

pub invariant_of-self : goal.invariant_of-self
invariant_of-self c = rw c.truncate.ensures.items (blank-take c.args.count c.self.inside.pages.items c.self.invariant)

use Rattle.rv_memory.proofs.Paged.{blank-push}
use Rattle.rv_memory.proofs.spares.SparePages.make.Goals as goal

pub invariant_of-self-2 : goal.invariant_of-self-2
invariant_of-self-2 c = rw c.in_ok-push.ensures.items (blank-push c.self.inside.pages.items c.in_ok-page.page c.self.invariant c.in_ok-page.ensures)

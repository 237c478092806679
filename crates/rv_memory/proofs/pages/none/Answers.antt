use Rattle.std.specs.Prelude.{None}
use Rattle.rv_memory.proofs.Paged.{replicate-more}
use Rattle.rv_memory.proofs.pages.none.Goals as goal

pub loop-page-preserved : goal.loop-page-preserved
loop-page-preserved c = rw (c.in_ok-push.ensures.items, c.loop-page.invariant) (replicate-more c.loop-page._page None)

use Rattle.std.proofs.Common.{subst, sym}
use Rattle.cl_explore.specs.Covering.{AreNodes}
use Rattle.cl_explore.proofs.exploring.Exploration.steps_to.Goals as goal

pub returns : goal.returns
returns c = λ image order nodes here are last.
    c.steps_to.ensures image order nodes here
    (subst (λ ks. AreNodes image order ks nodes) (sym c.as_slice.ensures.value) are) last

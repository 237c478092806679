use Rattle.std.proofs.Common.{◌∷◌, ◌++◌, subst}
use Rattle.cl_trace.specs.Rising.{Rises}
use Rattle.cl_trace.proofs.Rising.{Rises-above, Rises-behind}
use Rattle.test_cluster.proofs.trace.stamps_rise.Goals as goal

pub returns-clause-first : goal.returns-clause-first
returns-clause-first c =
    λ before after event is. Rises-above 0 before after event (subst (Rises 0) is c.cursor-cursor.ensures.rises)

pub returns-clause-later : goal.returns-clause-later
returns-clause-later c =
    λ before between after early late is.
    let from_early = Rises-behind 0 before (early ∷ (between ++ late ∷ after))
    (subst (Rises 0) is c.cursor-cursor.ensures.rises) in
    Rises-above early.stamp between after late from_early.1

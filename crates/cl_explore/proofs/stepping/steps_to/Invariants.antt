use Rattle.cl_explore.proofs.Finds.{LeadsBack}
use Rattle.cl_explore.proofs.stepping.steps_to.Given as goal

abbrev pub invariant-rest : goal.invariant-rest
invariant-rest l = LeadsBack l.nodes l.node l.at l.back.items

abbrev pub decreases-rest : goal.decreases-rest
decreases-rest l = l.at

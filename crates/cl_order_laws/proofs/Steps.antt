-- A turn whose stamp is below the greatest is a step, and each step is a turn.
use Rattle.cl_machine.specs.declared.steps.Step.{Step}
use Rattle.cl_machine.specs.Cluster.{Cluster, IsStep}
use Rattle.cl_order_laws.specs.Alike.{Leads}
use Rattle.cl_order_laws.specs.Laws.{BelowLaw}

pub below_law : BelowLaw
below_law old new e turn below = (turn.0, turn.1, turn.2, below, turn.3)

pub step_leads : (old new : Cluster) (e : Step) → IsStep old e new → Leads old e new
step_leads old new e step = (step.0, step.1, step.2, step.4)

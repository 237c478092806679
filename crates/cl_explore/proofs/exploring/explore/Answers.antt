use Rattle.cl_explore.specs.Ends.{findings}
use Rattle.cl_explore.proofs.Finds.{explored_all}
use Rattle.cl_explore.proofs.exploring.explore.Goals as goal

pub returns-in-Ok-clause-ends : goal.returns-in-Ok-clause-ends
returns-in-Ok-clause-ends g c =
    explored_all c.args.image.now c.args.course.now.order.now (findings c.in-Ok.found) c.in-Ok.ensures.ends

use Rattle.cl_explore.specs.How.{plainly}
use Rattle.cl_moves.proofs.Asking.{if_ok_on}
use Rattle.cl_explore.specs.Ends.{findings}
use Rattle.cl_explore.proofs.Finds.{explored_start}
use Rattle.cl_explore.proofs.Hears.{came_nowhere}
use Rattle.cl_explore.proofs.exploring.split.Goals as goal

pub returns-clause-ends : goal.returns-clause-ends
returns-clause-ends g c =
    if_ok_on c.search_plainly.result
    (λ found from. explored_start plainly c.args.image.now c.args.course.now.order.now c.in_ok-standing.standing
    (findings found) c.in_ok-standing.ensures tt from) c.search_plainly.ensures.ends

pub search_plainly-requires-clause-came : goal.search_plainly-requires-clause-came
search_plainly-requires-clause-came g c =
    came_nowhere c.args.image.now c.args.course.now.order.now c.in_ok-standing.standing c.in_ok-standing.ensures

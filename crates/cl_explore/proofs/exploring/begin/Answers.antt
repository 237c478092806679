use Rattle.std.proofs.Common.{ap, ◌∙◌}
use Rattle.cl_explore.proofs.Finds.{begins}
use Rattle.cl_explore.specs.How.{how_in}
use Rattle.cl_explore.proofs.exploring.begin.Goals as goal

pub returns-clause-begins : goal.returns-clause-begins
returns-clause-begins c =
    begins (how_in c.args.course.now) c.args.course.now.order.now c.args.search.now.nodes.items c.arrive.new.self
    c.in_ok-_first._first c.args.standing.now c.settle.new.live c.requires.none
    (ap (λ ls. ls.items) c.in_ok-_first.ensures.leads ∙ c.requires.still) c.in_ok-long.ensures.on
    c.in_ok-_first.ensures.arrives

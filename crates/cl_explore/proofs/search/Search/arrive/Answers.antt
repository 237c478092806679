use Rattle.cl_explore.specs.How.{how_in}
use Rattle.cl_explore.proofs.Covers.{arrives_found, arrives_new}
use Rattle.cl_moves.proofs.Asking.{if_ok_on}
use Rattle.cl_explore.proofs.search.Search.arrive.Goals as goal

pub returns-in-Some-clause-arrives : goal.returns-in-Some-clause-arrives
returns-in-Some-clause-arrives c =
    arrives_found (how_in c.args.course.now) c.args.course.now.order.now c.args.self.now.nodes.items c.args.parent c.in-Some.node c.args.standing.now
    (rw c.in-Some.is at c.in_ok-found.ensures)

pub returns-clause-arrives : goal.returns-clause-arrives
returns-clause-arrives c =
    let old = c.args.self.now.nodes in
    if_ok_on c.add.result
    (λ number. arrives_new (how_in c.args.course.now) c.args.course.now.order.now old.items c.add.new.self.nodes.items c.args.parent
    number c.args.standing.now)
    c.add.ensures.adds

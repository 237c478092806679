use Rattle.cl_explore.specs.How.{how_in}
use Rattle.cl_explore.proofs.Hears.{begun}
use Rattle.cl_explore.proofs.exploring.search_nodes.Goals as goal

pub returns-in_ok-follow_if_cut-in-Some-clause-ends : goal.returns-in_ok-follow_if_cut-in-Some-clause-ends
returns-in_ok-follow_if_cut-in-Some-clause-ends g c =
    c.in_ok-follow_if_cut-in-Some.ensures.ends c.args.standing.now
    ((rw c.in-Some.is at c.in_ok-visit_each.ensures.ends) c.args.standing.now c.requires.room c.in_ok-long.ensures.begins)

pub returns-in_ok-follow_if_cut-in-Some-clause-most : goal.returns-in_ok-follow_if_cut-in-Some-clause-most
returns-in_ok-follow_if_cut-in-Some-clause-most g c =
    c.in_ok-follow_if_cut-in-Some.ensures.most (rw c.in-Some.is at c.in_ok-visit_each.ensures.most)

pub visit_each-requires-clause-of : goal.visit_each-requires-clause-of
visit_each-requires-clause-of g c =
    begun (how_in c.args.course.now) c.args.course.now.image.now c.args.course.now.order.now c.args.standing.now
    c.begin.new.search c.requires.came c.in_ok-long.ensures.begins

pub follow_if_cut-requires-clause-of : goal.follow_if_cut-requires-clause-of
follow_if_cut-requires-clause-of g c = rw c.in-Some.is at c.in_ok-visit_each.ensures.of

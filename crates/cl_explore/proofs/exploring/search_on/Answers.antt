use Rattle.std.proofs.Common.{subst, sym}
use Rattle.cl_explore.specs.Ends.{ExploresFrom}
use Rattle.cl_explore.specs.How.{how_in}
use Rattle.cl_explore.proofs.Dives.{told}
use Rattle.cl_explore.proofs.Named.{named_too}
use Rattle.cl_explore.proofs.exploring.search_on.Goals as goal

pub returns-clause-ends : goal.returns-clause-ends
returns-clause-ends g c =
    let course = c.args.course.now in
    let search = c.search_nodes-told.new.search in
    let noted = c.in-Ok-Some.told.noted in
    let left = c.in-Ok-Some.told.left in
    named_too (how_in course) course.order.now c.args.standing.now
    (told search.nodes.items noted.ends.items noted.companies.items search.leads.items left c.may_wait.result
    noted.resting.items)
    c.only_waits.result c.only_waits.ensures
    (subst (λ may_wait. ExploresFrom (how_in course) course.order.now c.args.standing.now
    (told search.nodes.items noted.ends.items noted.companies.items search.leads.items left may_wait noted.resting.items))
    (sym c.may_wait.ensures) (rw c.in-Ok-Some.field-0-is at c.in-Ok-Some.ensures.ends))

use Rattle.cl_explore.proofs.Tries.{ClosesBelow}
use Rattle.cl_explore.specs.How.{how_in}
use Rattle.cl_explore.proofs.search.Search.visit_from.Given as goal

-- the ranks before this one are closed
abbrev pub invariant-loop-rank : goal.invariant-loop-rank
invariant-loop-rank l =
    ClosesBelow (how_in l.course) l.course.order.now l.fn.self l.node l.fn.live l.rank l.self l.live

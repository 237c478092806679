use Rattle.std.proofs.Common.{length}
use Rattle.cl_explore.proofs.Tries.{Firsts, GoneFrom}
use Rattle.cl_explore.specs.How.{how_in}
use Rattle.cl_explore.proofs.search.Search.go_each.Given as goal

-- those that are left are the first ones, and the others are covered
abbrev pub invariant-rest : goal.invariant-rest
invariant-rest l =
    Firsts l.turns.items l.fn.turns.items
    × GoneFrom (how_in l.course) l.course.order.now l.fn.self l.node l.fn.live l.fn.turns.items l.turns.items l.self l.live

abbrev pub decreases-rest : goal.decreases-rest
decreases-rest l = length l.turns.items

use Rattle.std.proofs.Common.{◌-◌, ◌≤◌}
use Rattle.cl_moves.specs.declared.standing.Standing.{Standing}
use Rattle.cl_explore.specs.Ends.{BeginsAt}
use Rattle.cl_explore.proofs.Finds.{SoFarFrom}
use Rattle.cl_explore.specs.How.{how_in}
use Rattle.cl_explore.specs.Listening.{IsSearchOf}
use Rattle.cl_lines.specs.Telling.{TellsProgress}
use Rattle.cl_explore.proofs.exploring.visit_each.Given as goal

-- so many nodes of this image were visited, and no more than are allowed, and nothing but progress was told; and what holds of
-- the listener still does
abbrev pub invariant-rest : goal.invariant-rest
invariant-rest g l =
    ((standing : Standing) → BeginsAt (how_in l.course) l.course.order.now standing l.fn.search
    → SoFarFrom (how_in l.course) l.course.order.now standing l.search l.noted.ends.items l.noted.companies.items l.noted.resting.items l.done)
    × (l.done ≤ l.bounds.states)
    × TellsProgress l.course.progress (g.E.Write.contents l.fn.err) (g.E.Write.contents l.err)
    × IsSearchOf (how_in l.course) l.course.image.now l.course.order.now l.search
    × g.L.Listener.holds l.listener l.course.image.now l.course.order.now
    × (g.L.Listener.told_need l.fn.listener l.course.image.now l.course.order.now
    → g.L.Listener.told_need l.listener l.course.image.now l.course.order.now)

abbrev pub decreases-rest : goal.decreases-rest
decreases-rest g l = l.bounds.states - l.done

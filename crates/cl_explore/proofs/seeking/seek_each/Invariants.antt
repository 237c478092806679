-- What was found are nodes of the image, and what holds of the listener still does.
use Rattle.std.proofs.Common.{◌-◌}
use Rattle.cl_explore.specs.How.{how_in}
use Rattle.cl_explore.specs.Listening.{IsSearchOf}
use Rattle.cl_explore.proofs.seeking.seek_each.Given as goal

abbrev pub invariant-rest : goal.invariant-rest
invariant-rest g l =
    IsSearchOf (how_in l.course) l.course.image.now l.course.order.now l.search
    × g.L.Listener.holds l.listener l.course.image.now l.course.order.now
    × (g.L.Listener.told_need l.fn.listener l.course.image.now l.course.order.now
    → g.L.Listener.told_need l.listener l.course.image.now l.course.order.now)

abbrev pub decreases-rest : goal.decreases-rest
decreases-rest g l = l.states - l.done

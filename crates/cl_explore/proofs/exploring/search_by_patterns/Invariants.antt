-- Nothing but progress was told, what holds of the listener still does, and where sends buffer no search lets them wait. That ranks
-- need buffers is known only if the listener was told of some.
use Rattle.std.specs.Prelude.{◌≡◌, false, true}
use Rattle.cl_lines.specs.Telling.{TellsProgress}
use Rattle.cl_explore.specs.Knowing.{NotesNeed}
use Rattle.cl_explore.specs.Needing.{AreSought}
use Rattle.cl_explore.proofs.exploring.search_by_patterns.Given as goal

abbrev pub invariant-loop-try : goal.invariant-loop-try
invariant-loop-try g l =
    TellsProgress l.course.progress (g.E.Write.contents l.fn.err) (g.E.Write.contents l.err)
    × g.L.Listener.holds l.listener l.image l.course.order.now
    × (l.course.buffered ≡ true → l.patterns.may_wait ≡ false)
    × NotesNeed (AreSought l.course.buffered l.image × g.L.Listener.told_need l.listener l.image l.course.order.now)
    l.fn.known l.known

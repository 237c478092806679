use Rattle.cl_explore.specs.Ends.{findings}
use Rattle.cl_explore.specs.How.{at_once, plainly}
use Rattle.cl_explore.proofs.Finds.{explored_behind}
use Rattle.cl_lines.proofs.Behind.{told_behind}
use Rattle.cl_explore.proofs.Hears.{came_behind}
use Rattle.cl_explore.proofs.Needing.{says_known, says_whole}
use Rattle.cl_explore.proofs.exploring.explore_from.Goals as goal

pub returns-in-Some-2-clause-ends : goal.returns-in-Some-2-clause-ends
returns-in-Some-2-clause-ends g c =
    explored_behind at_once c.args.image.now c.args.course.now.order.now c.args.turns.now c.in_ok-standing.standing
    (findings c.in-Some-2.found) c.in_ok-standing.ensures.led tt (rw c.in-Some-2.is at c.in_ok-found-2.ensures.ends)

pub returns-clause-ends : goal.returns-clause-ends
returns-clause-ends g c =
    explored_behind plainly c.args.image.now c.args.course.now.order.now c.args.turns.now c.in_ok-again.again
    (findings c.in_ok-found-3.found) c.in_ok-again.ensures.led tt c.in_ok-found-3.ensures.ends

pub returns-in_err-found-2-clause-progress : goal.returns-in_err-found-2-clause-progress
returns-in_err-found-2-clause-progress g c =
    told_behind c.args.course.now.progress _ _ _ c.search_by_patterns.ensures.progress c.search_at_once.ensures.progress

pub returns-in-Some-2-clause-progress : goal.returns-in-Some-2-clause-progress
returns-in-Some-2-clause-progress g c =
    told_behind c.args.course.now.progress _ _ _ c.search_by_patterns.ensures.progress c.search_at_once.ensures.progress

pub returns-in_err-again-clause-progress : goal.returns-in_err-again-clause-progress
returns-in_err-again-clause-progress g c =
    told_behind c.args.course.now.progress _ _ _ c.search_by_patterns.ensures.progress c.search_at_once.ensures.progress

pub returns-in_err-found-3-clause-progress : goal.returns-in_err-found-3-clause-progress
returns-in_err-found-3-clause-progress g c =
    told_behind c.args.course.now.progress _ _ _ c.search_by_patterns.ensures.progress
    (told_behind c.args.course.now.progress _ _ _ c.search_at_once.ensures.progress c.search_plainly.ensures.progress)

pub returns-clause-progress : goal.returns-clause-progress
returns-clause-progress g c =
    told_behind c.args.course.now.progress _ _ _ c.search_by_patterns.ensures.progress
    (told_behind c.args.course.now.progress _ _ _ c.search_at_once.ensures.progress c.search_plainly.ensures.progress)

pub search_at_once-requires-clause-came : goal.search_at_once-requires-clause-came
search_at_once-requires-clause-came g c =
    came_behind c.args.image.now c.args.course.now.order.now c.args.turns.now c.in_ok-standing.standing
    c.in_ok-standing.ensures.led

pub search_plainly-requires-clause-came : goal.search_plainly-requires-clause-came
search_plainly-requires-clause-came g c =
    came_behind c.args.image.now c.args.course.now.order.now c.args.turns.now c.in_ok-again.again c.in_ok-again.ensures.led

pub returns-in-Some-clause-needs : goal.returns-in-Some-clause-needs
returns-in-Some-clause-needs g c =
    let image = c.args.image.now in
    let order = c.args.course.now.order.now in
    says_whole c.args.course.now.buffered image (findings c.in-Some.found)
    (g.L.Listener.told_need c.search_by_patterns.new.listener image order) c.known_before-known.result
    c.search_by_patterns.new.known c.needs_of-found.result c.known_before-known.ensures c.in_ok-found.ensures.known
    (rw c.in-Some.is at c.in_ok-found.ensures.whole) c.needs_of-found.ensures

pub returns-in-Some-2-clause-needs : goal.returns-in-Some-2-clause-needs
returns-in-Some-2-clause-needs g c =
    let image = c.args.image.now in
    let order = c.args.course.now.order.now in
    says_known c.args.course.now.buffered image (findings c.in-Some-2.found)
    (g.L.Listener.told_need c.search_by_patterns.new.listener image order)
    (g.L.Listener.told_need c.search_at_once.new.listener image order) c.known_before-known.result
    c.search_by_patterns.new.known c.known_before-known.ensures c.in_ok-found.ensures.known
    c.search_at_once.ensures.still

pub returns-clause-needs : goal.returns-clause-needs
returns-clause-needs g c =
    let image = c.args.image.now in
    let order = c.args.course.now.order.now in
    says_known c.args.course.now.buffered image (findings c.in_ok-found-3.found)
    (g.L.Listener.told_need c.search_by_patterns.new.listener image order)
    (g.L.Listener.told_need c.search_plainly.new.listener image order) c.known_before-known.result
    c.search_by_patterns.new.known c.known_before-known.ensures c.in_ok-found.ensures.known
    (λ was. c.search_plainly.ensures.still (c.search_at_once.ensures.still was))

use Rattle.rvmc_draw.specs.Held.{scope_of}
use Rattle.rvmc_draw.proofs.Walked.{walked_none}
use Rattle.rvmc_draw.proofs.walks.Walk.new.Goals as goal

pub returns : goal.returns
returns c =
    let board = c.new-board.ensures in
    let parts = c.in_ok-parts.ensures in
    let looks = c.in_ok-looks.ensures in
    let marks = c.in_ok-marks.ensures in
    walked_none (scope_of c.args.sizes c.args.view) _ board.ranks board.lines board.spots board.got parts.cells parts.untaken
    looks.harts looks.begun marks.harts marks.view marks.shapes c.new-arrows.ensures.items c.new-bars.ensures.items marks.count
    marks.kept

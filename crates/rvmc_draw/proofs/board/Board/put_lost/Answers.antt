use Rattle.rvmc_draw.specs.Board.{lost_from}
use Rattle.rvmc_draw.proofs.Sources.{source_more}
use Rattle.rvmc_draw.proofs.board.Board.put_lost.Goals as goal

pub loop-place-preserved : goal.loop-place-preserved
loop-place-preserved c =
    source_more (lost_from c.args.view c.args.self.now.lines.items c.args.self.now.spots.items c.args.self.now.got.items)
    c.args.arrows.now.items c.loop-place.arrows.items c.put_lost_at.new.arrows.items c.loop-place.place
    c.loop-place.invariant c.in_ok-put_lost_at.ensures

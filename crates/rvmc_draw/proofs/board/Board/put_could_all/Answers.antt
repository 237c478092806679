use Rattle.rvmc_draw.specs.Board.{could_from}
use Rattle.rvmc_draw.proofs.Sources.{source_more}
use Rattle.rvmc_draw.proofs.board.Board.put_could_all.Goals as goal

pub loop-source-preserved : goal.loop-source-preserved
loop-source-preserved c =
    source_more (could_from c.args.self.now.lines.items c.args.self.now.spots.items c.args.to c.args.a)
    c.args.arrows.now.items c.loop-source.arrows.items c.put_could_from.new.arrows.items c.loop-source.source
    c.loop-source.invariant c.in_ok-put_could_from.ensures

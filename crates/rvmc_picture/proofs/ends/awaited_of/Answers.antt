use Rattle.std.proofs.Common.{[]}
use Rattle.rvmc_draw.proofs.Sources.{source_more}
use Rattle.rvmc_picture.specs.Ends.{awaited_if}
use Rattle.rvmc_picture.proofs.ends.awaited_of.Goals as goal

pub loop-rank-preserved : goal.loop-rank-preserved
loop-rank-preserved c =
    source_more (awaited_if c.args.own c.args.waits.now) [] c.loop-rank.awaited.items c.put_awaited.new.awaited.items
    c.loop-rank.rank c.loop-rank.invariant c.in_ok-put_awaited.ensures

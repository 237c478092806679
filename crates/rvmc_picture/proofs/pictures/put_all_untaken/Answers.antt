use Rattle.std.proofs.Common.{arith}
use Rattle.rvmc_draw.proofs.Taken.{taken_all, taken_more}
use Rattle.rvmc_picture.specs.Pictures.{one_untaken}
use Rattle.rvmc_picture.proofs.pictures.put_all_untaken.Goals as goal

pub loop-one-preserved : goal.loop-one-preserved
loop-one-preserved c =
    taken_more (one_untaken c.args.links.now) c.args.untaken.now c.loop-one.one-index _ c.args.arrows.now.items
    c.loop-one.arrows.items c.put_untaken.new.arrows.items (omega (arith, c.loop-one-test.true)) c.loop-one.invariant
    c.in_ok-put_untaken.ensures

pub returns : goal.returns
returns c =
    taken_all (one_untaken c.args.links.now) c.args.untaken.now c.loop-one.one-index c.args.arrows.now.items
    c.loop-one.arrows.items (omega (arith, c.loop-one-test.false)) c.loop-one.invariant

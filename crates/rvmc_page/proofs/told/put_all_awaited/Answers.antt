use Rattle.std.proofs.Common.{arith}
use Rattle.std.specs.Prelude.{◌++◌, codes}
use Rattle.std.specs.Fmt.{decimal}
use Rattle.rvmc_draw.proofs.Taken.{taken_all, taken_more}
use Rattle.rvmc_page.proofs.told.put_all_awaited.Goals as goal

pub loop-rank-preserved : goal.loop-rank-preserved
loop-rank-preserved c =
    taken_more (λ rank. codes " " ++ decimal rank) c.args.ranks.now c.loop-rank.rank-index _ c.args.text.now.items
    c.loop-rank.text.items c.put_awaited.new.text.items (omega (arith, c.loop-rank-test.true)) c.loop-rank.invariant
    c.in_ok-put_awaited.ensures

pub returns : goal.returns
returns c =
    taken_all (λ rank. codes " " ++ decimal rank) c.args.ranks.now c.loop-rank.rank-index c.args.text.now.items
    c.loop-rank.text.items (omega (arith, c.loop-rank-test.false)) c.loop-rank.invariant

use Rattle.std.specs.List.{flat_map}
use Rattle.std.proofs.Common.{◌++◌, ◌∙◌, ap, arith}
use Rattle.rvmc_draw.specs.Looks.{open_to}
use Rattle.rvmc_draw.proofs.Taken.{taken_all, taken_more}
use Rattle.rvmc_draw.proofs.looks.Looks.put_open.Goals as goal

pub loop-begun-preserved : goal.loop-begun-preserved
loop-begun-preserved c =
    taken_more (open_to c.args.end) c.as_slice-begun-items.result.now c.loop-begun.begun-index _ c.args.bars.now.items
    c.loop-begun.bars.items c.put_open_one.new.bars.items (omega (arith, c.loop-begun-test.true))
    c.loop-begun.invariant c.in_ok-put_open_one.ensures

pub returns : goal.returns
returns c =
    taken_all (open_to c.args.end) c.as_slice-begun-items.result.now c.loop-begun.begun-index c.args.bars.now.items
    c.loop-begun.bars.items (omega (arith, c.loop-begun-test.false)) c.loop-begun.invariant
    ∙ ap (λ begun. c.args.bars.now.items ++ flat_map (open_to c.args.end) begun) c.as_slice-begun-items.ensures.value

use Rattle.std.proofs.Common.{arith}
use Rattle.cl_explore.proofs.Lists.{read_of}
use Rattle.rvmc_explore.proofs.Listed.{none_left, one_more}
use Rattle.rvmc_explore.proofs.telling.put_told.Goals as goal

pub loop-place-init : goal.loop-place-init
loop-place-init c = λ whole all. all

pub loop-place-preserved : goal.loop-place-preserved
loop-place-preserved c =
    let told = c.args.told.now in
    let place = c.loop-place.place in
    let one = c.index-told-place.result in
    let there = read_of told place one c.loop-place-test.true c.index-told-place.is in
    λ whole rest. c.loop-place.invariant whole
    (one_more told place one c.loop-place.text.items c.put_outcome.new.text.items whole there
    c.in_ok-put_outcome.ensures rest)

pub returns : goal.returns
returns c =
    c.loop-place.invariant _
    (none_left c.args.told.now c.loop-place.place c.loop-place.text.items
    (omega (arith, c.loop-place-test.false)))

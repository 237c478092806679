use Rattle.std.proofs.Common.{◌+◌, ◌-◌, ◌∙◌, ap, arith, refl, sym}
use Rattle.rvmc_places.specs.Ways.{way_among, way_out}
use Rattle.rvmc_places.proofs.WayChains.{found, no_more, none_found, one_more}
use Rattle.rvmc_places.proofs.ways.way_out.Goals as goal

pub loop-number-init : goal.loop-number-init
unfolding way_out
loop-number-init c = refl

pub returns-then-is_some : goal.returns-then-is_some
returns-then-is_some c =
    let l = c.loop-number in
    let memory = c.args.memory.now in
    let hart = c.args.hart.now in
    sym (l.invariant ∙ one_more memory hart l.number (omega (arith, c.loop-number-test.true))
    ∙ ap (way_among memory hart (256 - (l.number + 1))) (sym c.way-found.ensures)
    ∙ found memory hart (256 - (l.number + 1)) c.way-found.result (sym c.is_some.ensures ∙ c.if-is_some.true))

pub loop-number-preserved : goal.loop-number-preserved
loop-number-preserved c =
    let l = c.loop-number in
    let memory = c.args.memory.now in
    let hart = c.args.hart.now in
    l.invariant ∙ one_more memory hart l.number (omega (arith, c.loop-number-test.true))
    ∙ ap (way_among memory hart (256 - (l.number + 1))) (sym c.way-found.ensures)
    ∙ none_found memory hart (256 - (l.number + 1)) c.way-found.result (sym c.is_some.ensures ∙ c.if-is_some.false)

pub returns : goal.returns
returns c =
    let l = c.loop-number in
    sym (l.invariant
    ∙ no_more c.args.memory.now c.args.hart.now l.number (omega (arith, c.loop-number-test.false)))

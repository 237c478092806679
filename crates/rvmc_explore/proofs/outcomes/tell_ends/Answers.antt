use Rattle.std.proofs.Common.{arith, subst, ◌∙◌}
use Rattle.std.proofs.lemmas.Option.{slice_get_read}
use Rattle.cl_explore.specs.Ends.{findings}
use Rattle.rvmc_explore.specs.InnerOutcomes.{AddsEnd}
use Rattle.rvmc_explore.specs.Outcomes.{IsEndBody}
use Rattle.rvmc_explore.proofs.Listed.{all_ends, have_room, no_ends, one_end}
use Rattle.rvmc_explore.proofs.outcomes.tell_ends.Goals as goal

pub loop-place-init : goal.loop-place-init
loop-place-init c =
    no_ends c.args.order.now c.args.image.now (findings c.args.found.now) c.args.heard.items c.requires.heard

pub add_end-requires : goal.add_end-requires
add_end-requires c =
    have_room c.args.order.now c.args.image.now (findings c.args.found.now) c.args.heard.items c.loop-place.place
    c.loop-place.told.items (omega (arith, c.loop-place-test.true)) c.loop-place.invariant

pub loop-place-preserved : goal.loop-place-preserved
loop-place-preserved c =
    let order = c.args.order.now in
    let image = c.args.image.now in
    let ends = c.args.found.now.ends in
    let node = c.index-node.result.now in
    let body = c.in_ok-body.body.items in
    let old = c.loop-place.told.items in
    let new = c.add_end.new.told.items in
    let at = slice_get_read ends.items c.len-place-end.result c.loop-place.place node (c.len-place-end.ensures ∙ ends.ok.0)
    c.loop-place-test.true c.index-node.ensures in
    one_end order image (findings c.args.found.now) c.requires.explored c.args.heard.items c.loop-place.place node body old new
    at (subst (λ kept. IsEndBody order image kept node body) c.as_slice-nodes.ensures.value c.in_ok-body.ensures)
    (subst (λ kept. AddsEnd kept old node body new) c.as_slice-nodes.ensures.value c.in_ok-add_end.ensures)
    c.loop-place.invariant

pub returns-clause-told : goal.returns-clause-told
returns-clause-told c =
    let ends = c.args.found.now.ends in
    all_ends c.args.order.now c.args.image.now (findings c.args.found.now) c.args.heard.items c.loop-place.place
    c.loop-place.told.items (omega (arith, c.loop-place-test.false, c.len-place-end.ensures, ends.ok.0))
    c.loop-place.invariant

pub returns-clause-begins : goal.returns-clause-begins
returns-clause-begins c = (c.loop-place.invariant).begins

pub returns-clause-needs : goal.returns-clause-needs
returns-clause-needs c = (c.loop-place.invariant).needs

use Rattle.std.proofs.Common.{◌∙◌, refl, sym}
use Rattle.rvmc_explore.proofs.Heard.{new_need}
use Rattle.rvmc_explore.proofs.Needed.{was_listed}
use Rattle.rvmc_explore.proofs.Places.{has_none, has_place}
use Rattle.rvmc_explore.proofs.outcomes.new_need.Goals as goal

pub returns-then-is_some : goal.returns-then-is_some
returns-then-is_some c = λ order there.
    was_listed c.args.image.now order c.args.nodes.now c.args.node c.args.ranks.now c.in_ok-body.body.items c.args.told.now
    there c.in_ok-body.ensures
    (has_place c.args.told.now c.args.told.now c.in_ok-body.body.items c.as_slice.result.now refl c.as_slice.ensures.value
    c.place_of.result (sym c.is_some.ensures ∙ c.if-is_some.true) c.place_of.ensures.there)

pub returns : goal.returns
returns c = λ order there.
    new_need c.args.image.now order c.args.nodes.now c.args.node c.args.ranks.now c.in_ok-body.body.items c.args.told.now
    c.in_ok-outcome_of.field-0 there c.in_ok-body.ensures c.in_ok-outcome_of.ensures
    (has_none c.args.told.now c.args.told.now c.in_ok-body.body.items c.as_slice.result.now refl c.as_slice.ensures.value
    c.place_of.result (sym c.is_some.ensures ∙ c.if-is_some.false) c.place_of.ensures.new)

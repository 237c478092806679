use Rattle.std.proofs.Common.{◌∙◌, refl, sym}
use Rattle.rvmc_explore.proofs.Heard.{end_inside, new_outcome}
use Rattle.rvmc_explore.proofs.Places.{has_none}
use Rattle.rvmc_explore.proofs.outcomes.new_end.Goals as goal

pub end_body-requires : goal.end_body-requires
end_body-requires c = end_inside c.args.image.now c.args.order.now c.args.nodes.now c.args.node c.requires

pub returns-clause-new : goal.returns-clause-new
returns-clause-new c =
    new_outcome c.args.image.now c.args.order.now c.args.nodes.now c.args.node c.in_ok-body.body.items c.args.told.now
    c.in_ok-outcome_of.field-0 c.requires c.in_ok-body.ensures c.in_ok-outcome_of.ensures
    (has_none c.args.told.now c.args.told.now c.in_ok-body.body.items c.as_slice.result.now refl c.as_slice.ensures.value
    c.place_of.result (sym c.is_some.ensures ∙ c.if-is_some.false) c.place_of.ensures.new)

pub returns-clause-no_need : goal.returns-clause-no_need
returns-clause-no_need c = (c.in_ok-outcome_of.ensures).need_is

use Rattle.std.proofs.Common.{rules, ◌≡◌, ◌<◌, ap, length, subst}
use Rattle.rv_image_types.specs.declared.images.ImageParts.{ImageParts}
use Rattle.cl_record.specs.Plans.{HasPlans}
use Rattle.rvmc_answers.specs.Plans.{ArePlansOf}
use Rattle.rvmc_tool.proofs.Fitting.{names_one}
use Rattle.rvmc_tool.proofs.starting.explore_from.Goals as goal

-- an image has a rank, and its plan names a hart
pub answered-requires-clause-harts : goal.answered-requires-clause-harts
answered-requires-clause-harts g c =
    let image = c.args.image.now in
    let order = c.as_slice.result.now in
    let plans = c.in_ok-plans.plans.items in
    let plans_are : c.as_slice-2.result.now ≡ plans = (cc (c.as_slice-2.ensures.value)) in
    let has = subst (HasPlans image) plans_are (c.has_plans.ensures.0 (search rules)) in
    let are = subst (λ r. ArePlansOf r order c.args.turns plans) (ap (λ (parts : ImageParts). parts.ranks) c.parts.ensures.parts)
    c.in_ok-plans.ensures in
    subst (λ o. 0 < length o) c.as_slice.ensures
    (names_one image order c.args.turns plans c.parts.ensures.limits.has_ranks has are)

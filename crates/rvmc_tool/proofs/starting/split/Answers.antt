use Rattle.std.proofs.Common.{rules, ◌≡◌, ◌<◌, ap, length, subst, sym}
use Rattle.rv_image_types.specs.declared.images.ImageParts.{ImageParts}
use Rattle.cl_record.specs.Plans.{HasPlans}
use Rattle.rvmc_answers.specs.Plans.{ArePlansOf}
use Rattle.rvmc_tool.proofs.Fitting.{names_one}
use Rattle.rvmc_tool.proofs.starting.split.Goals as goal

-- an image has a rank, and its plan names a hart
pub split-requires : goal.split-requires
split-requires g c =
    let image = c.args.image.now in
    let order = c.as_slice.result.now in
    let plans = c.in_ok-plans.plans.items in
    let same : c.as_slice-3.result.now ≡ order = (cc (c.as_slice-3.ensures.value, c.as_slice.ensures.value)) in
    let plans_are : c.as_slice-2.result.now ≡ plans = (cc (c.as_slice-2.ensures.value)) in
    let has = subst (HasPlans image) plans_are (c.has_plans.ensures.0 (search rules)) in
    let are = subst (λ r. ArePlansOf r order c.args.turns plans) (ap (λ (parts : ImageParts). parts.ranks) c.parts-2.ensures.parts)
    c.in_ok-plans.ensures in
    subst (λ o. 0 < length o) (sym same)
    (names_one image order c.args.turns plans c.parts.ensures.limits.has_ranks has are)

use Rattle.std.proofs.Common.{rules, ◌≡◌, ◌<◌, length, subst, sym}
use Rattle.cl_record.specs.Plans.{HasPlans}
use Rattle.rvmc_answers.specs.Plans.{listed}
use Rattle.rvmc_tool.proofs.Fitting.{names_one}
use Rattle.rvmc_tool.proofs.exploring.order_of.Goals as goal

-- an image has a rank, and its plan names a hart
pub returns-clause-named : goal.returns-clause-named
returns-clause-named c =
    let image = c.args.image.now in
    let harts = listed c.args.wanted.now.harts.now image.harts in
    let plans_are : c.as_slice.result.now ≡ c.in_ok-plans.plans.items = (cc (c.as_slice.ensures.value)) in
    let order_is : c.in_ok-order.order.items ≡ harts = (cc (c.in_ok-order.ensures, c.parts.ensures.parts)) in
    let has = subst (HasPlans image) plans_are (c.has_plans.ensures.0 (search rules)) in
    subst (λ o. 0 < length o) (sym order_is)
    (names_one image harts c.args.wanted.now.turns c.in_ok-plans.plans.items c.parts.ensures.limits.has_ranks has c.in_ok-plans.ensures)

-- Records of ends are inside the limits of a record, and a right plan names a hart.
use Rattle.std.specs.Prelude.{ℕ, ◌≤◌, ◌<◌, Bool, List, [], ◌∷◌, length, Option, Some, None, All}
use Rattle.std.proofs.Common.{refl, subst, arith}
use Rattle.std.proofs.lemmas.Option.{slice_get_within}
use Rattle.cl_record.specs.Plans.{HasPlans, IsPlan}
use Rattle.cl_record.specs.declared.plans.Plan.{Plan}
use Rattle.rv_image_types.specs.Image.{IsImage}
use Rattle.rv_image_types.specs.declared.images.ImageParts.{ImageParts}
use Rattle.cl_machine.specs.declared.steps.Step.{Step}
use Rattle.cl_text.specs.Limits.{FitsStep}
use Rattle.cl_text_laws.proofs.Runs.{runs_fit}
use Rattle.rvmc_explore.specs.Recorded.{Leads, RecordsEnd}
use Rattle.rvmc_explore.specs.Starting.{RecordsEndBehind}
use Rattle.rvmc_explore.specs.declared.outcomes.Outcome.{Outcome}
use Rattle.rvmc_starts.specs.declared.starts.Start.{Start}
use Rattle.rvmc_answers.specs.Plans.{ArePlansOf, IsPlanOf}

fit_by : (image : ImageParts) (order : List ℕ) (left : ℕ) (steps : List Step) (found : Option Outcome) → IsImage image
    → Leads image order left found (Some steps) → All (FitsStep image) steps
fit_by image order left steps None is leads = absurd leads
fit_by image order left steps (Some outcome) is leads = runs_fit image steps (leads.node).cluster is leads.run

pub ends_fit : (image : ImageParts) (order : List ℕ) (buffered : Bool) (states turns number : ℕ) (steps : List Step)
    → IsImage image → RecordsEnd image order buffered states turns number (Some steps) → All (FitsStep image) steps
ends_fit image order buffered states turns number steps is recorded = fit_by image order _ steps _ is recorded.leads

pub ends_behind_fit : (image : ImageParts) (start : Start) (states turns number : ℕ) (steps : List Step) → IsImage image
    → RecordsEndBehind image start states turns number (Some steps) → All (FitsStep image) steps
ends_behind_fit image start states turns number steps is recorded = fit_by image start.harts _ steps _ is recorded.leads

-- the harts of right plans are some
pub names_one : (image : ImageParts) (order : List ℕ) (budget : ℕ) (plans : List Plan) → 1 ≤ image.ranks
    → HasPlans image plans → ArePlansOf image.ranks order budget plans → 0 < length order
names_one image order budget [] some has are = omega (arith, some, has.one_each)
names_one image order budget (plan ∷ plans) some has are =
    let here : 0 < length (plan ∷ plans) = slice_get_within (plan ∷ plans) 0 plan refl in
    let of : IsPlanOf order budget plan = are.same 0 plan here in
    let is : IsPlan image.harts plan = has.are_plans 0 plan here in
    subst (λ o. 0 < length o) of.harts_are (is.is_order).named

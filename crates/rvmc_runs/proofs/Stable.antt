-- Plans are right where they can't be wrong, and what a run with threads then refuses.
use Rattle.std.proofs.Common.{◌≡◌, ◌<◌, ◌≤◌, ℕ, List, Bool, true, false, ◌+◌, ap, refl, sym, true≢false, arith}
use Rattle.std.specs.Prelude.{◌↔◌, Result, Err}
use Rattle.std.proofs.Math.Nat.{lt_of_not-le, not-le_of_lt}
use Rattle.cl_deeds.specs.Orders.{IsOrder}
use Rattle.cl_record.specs.Plans.{HasPlans, IsPlan}
use Rattle.cl_record.specs.declared.plans.Plan.{Plan}
use Rattle.cl_record.specs.declared.records.RunFault.{RunFault}
use Rattle.cl_record.specs.declared.records.RunFault.TheVariants as run
use Rattle.rv_image_types.specs.declared.images.ImageParts.{ImageParts}
use Rattle.rvmc_answers.specs.Making.{IsRunFault}
use Rattle.rvmc_answers.specs.Below.{fault_of_run}

-- what can't be otherwise is so
abbrev IsStable : Type 0 → Type 0
IsStable P = ¬ (¬ P) → P

lt_stable : (a b : ℕ) → IsStable (a < b)
lt_stable a b h = lt_of_not-le (λ le. h (λ lt. not-le_of_lt lt le))

le_stable : (a b : ℕ) → IsStable (a ≤ b)
le_stable a b h = let less : a < b + 1 = lt_stable a (b + 1) (λ no. h (λ le. no (omega (arith, le)))) in omega (arith, less)

eq_stable : (a b : ℕ) → IsStable (a ≡ b)
eq_stable a b h =
    let up : a ≤ b = le_stable a b (λ no. h (λ e. no (omega (arith, e)))) in
    let down : b ≤ a = le_stable b a (λ no. h (λ e. no (omega (arith, e)))) in
    omega (arith, up, down)

order_stable : (count : ℕ) (order : List ℕ) → IsStable (IsOrder count order)
order_stable count order h = record {
  named = lt_stable _ _ (λ no. h (λ is. no is.named));
  there = λ k d below. lt_stable _ _ (λ no. h (λ is. no (is.there k d below)));
}

plan_stable : (harts : ℕ) (plan : Plan) → IsStable (IsPlan harts plan)
plan_stable harts plan h = record {
  is_order = order_stable _ _ (λ no. h (λ is. no is.is_order));
  least_budget = le_stable _ _ (λ no. h (λ is. no is.least_budget));
  most_budget = le_stable _ _ (λ no. h (λ is. no is.most_budget));
}

plans_stable : (image : ImageParts) (plans : List Plan) → IsStable (HasPlans image plans)
plans_stable image plans h = record {
  one_each = eq_stable _ _ (λ no. h (λ has. no has.one_each));
  are_plans = λ k d below. plan_stable _ _ (λ no. h (λ has. no (has.are_plans k d below)));
}

abbrev without_record : {A : Type 0} → RunFault → Result A RunFault
without_record fault = Err fault

abbrev is_plans : {A : Type 0} → Result A RunFault → Bool
is_plans (Err run.Plans) = true
is_plans other = false

-- a run with threads refuses wrong plans as Plans, and nothing else of wrong plans
pub thread_fault : {A : Type 0} (image : ImageParts) (plans : List Plan) (fault : RunFault)
    → (without_record {A = A} fault ≡ Err run.Plans) ↔ ¬ (HasPlans image plans)
    → IsRunFault (¬ (HasPlans image plans)) (HasPlans image plans) (fault_of_run fault)
thread_fault image plans run.Plans h = h.0 refl
thread_fault image plans run.Memory h = tt
thread_fault image plans run.Spawn h = plans_stable image plans (λ no. true≢false (ap is_plans (sym (h.1 no))))
thread_fault image plans (run.Unlike rank place) h = plans_stable image plans (λ no. true≢false (ap is_plans (sym (h.1 no))))

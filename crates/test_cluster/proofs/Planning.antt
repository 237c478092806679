-- Which plans are refused, and how they go round.
use Rattle.std.specs.Prelude.{ℕ, ◌≡◌, ◌<◌, ◌≤◌, ◌+◌, ◌*◌, ◌%◌, ◌^◌, ◌⊎◌, Bool, true, false, IsTrue, List, [], ◌∷◌}
use Rattle.std.specs.Prelude.{length, slice_get, slice_index, All, Contains, Some, Result, Ok, Err, IfOk, OnOk}
use Rattle.std.proofs.Common.{refl, sym, ap, ◌∙◌, subst, arith}
use Rattle.std.proofs.Math.Nat.{mod-eq_of_lt}
use Rattle.std.proofs.lemmas.List.Elements.{All-cons, All-contains, All-nil}
use Rattle.std.proofs.lemmas.Nat.{mod-mul-add}
use Rattle.std.proofs.lemmas.Option.{get_or_from_slice_get, slice_get_within}
use mathlib.Core.Logic.{inl, inr}
use Rattle.rv_image_types.specs.declared.images.ImageParts.{ImageParts}
use Rattle.cl_deeds.specs.Orders.{IsOrder}
use Rattle.cl_record.specs.Plans.{ArePlans, IsPlan}
use Rattle.cl_record.specs.declared.plans.Plan.{Plan}
use Rattle.cl_record.specs.declared.records.Record.{Record}
use Rattle.cl_run.specs.Runs.{IsOneRun}
use Rattle.test_cluster.specs.Runs.{OfEachRank, RoundAndRound}

module _ (image : ImageParts) (plans : List Plan) (order : List ℕ) (are : ArePlans image plans order) where
  -- each plan is right
  pub plan_at : (rank : ℕ) (plan : Plan) → slice_get plans rank ≡ Some plan → IsPlan image.harts plan
  plan_at rank plan at =
      subst (IsPlan image.harts) (get_or_from_slice_get plans rank plan plan at)
      (are.planned.are_plans rank plan (slice_get_within plans rank plan at))

  -- and names no hart that isn't there
  pub no_absent_hart : (rank : ℕ) (plan : Plan) → slice_get plans rank ≡ Some plan
      → Contains plan.order.items image.harts → ⊥
  no_absent_hart rank plan at has =
      let below = All-contains (λ n. n < image.harts) plan.order.items image.harts
      (plan_at rank plan at).is_order.there has in
      absurd (omega (arith, below))

-- what can't be so is refused
pub refused : (b : Bool) → (IsTrue b → ⊥) → b ≡ false
refused true no_way = absurd (no_way refl)
refused false no_way = refl

-- one rank, and a plan of its hart 0 at either limit
pub limits : (image : ImageParts) (plans : List Plan) (plan : Plan) → image.ranks ≡ 1 → 0 < image.harts
    → plans ≡ plan ∷ [] → plan.order.items ≡ 0 ∷ []
    → (plan.budget ≡ 1) ⊎ (plan.budget ≡ 16777216) → ArePlans image plans (0 ∷ [])
limits image plans plan one hart is items budget = record {
  planned = record {
    one_each = ap (λ (ps : List Plan). length ps) is ∙ sym one;
    are_plans = subst (All (IsPlan image.harts)) (sym is)
        (All-cons (IsPlan image.harts) plan [] right (All-nil (IsPlan image.harts)));
  };
  is_order = record {
    named = omega arith;
    there = All-cons (λ number. number < image.ranks) 0 [] (omega (arith, one))
        (All-nil (λ number. number < image.ranks));
  };
  misses_none = λ rank below. (0, omega arith, omega (arith, below, one));
}
  where
    least : 1 ≤ plan.budget
    least = elim budget [
      | inl is_one ↦ omega (arith, is_one)
      | inr is_most ↦ omega (arith, is_most)
    ]

    most : plan.budget ≤ 2 ^ 24
    most = elim budget [
      | inl is_one ↦ omega (arith, is_one)
      | inr is_most ↦ omega (arith, is_most)
    ]

    right : IsPlan image.harts plan
    right = record {
      is_order = subst (IsOrder image.harts) (sym items)
          (record {
            named = omega arith;
            there = All-cons (λ number. number < image.harts) 0 [] hart (All-nil (λ number. number < image.harts));
          });
      least_budget = least;
      most_budget = most;
    }

pub round_and_round : RoundAndRound
round_and_round plan events n event follows below =
    let hart = plan.order.items in (
      (λ at. follows n event at ∙ ap (slice_index hart) (mod-eq_of_lt below)),
      (λ at. follows (n + length hart) event at ∙ ap (slice_index hart) (digits n (length hart) below)),
    )
  where
    digits : (n m : ℕ) → n < m → (n + m) % m ≡ n
    digits n m below = let sum : n + m ≡ 1 * m + n = omega arith in ap (λ k. k % m) sum ∙ mod-mul-add 1 m n below

-- what a run leaves
pub of_each : (image : ImageParts) (plans : List Plan) (order : List ℕ) (left : Record) → ArePlans image plans order
    → IsOneRun image plans order left
    → OfEachRank image plans order left
of_each image plans order left are run = record {
  are_plans = are;
  plans_count = run.plans_count;
  traces_count = run.traces_count;
  ranks_count = run.ranks_count;
  stops_count = run.stops_count;
}

pub of_each_ok : {E : Type 0} (image : ImageParts) (plans : List Plan) (order : List ℕ) (r : Result Record E)
    → OnOk r (ArePlans image plans order)
    → IfOk r (IsOneRun image plans order) → IfOk r (OfEachRank image plans order)
of_each_ok image plans order (Ok left) are run = of_each image plans order left are run
of_each_ok image plans order (Err e) are run = tt

-- Plans that were cut, and those that weren't.
use Rattle.std.specs.Prelude.{ℕ, suc, ◌≡◌, List, [], ◌∷◌, All, length, slice_get, Some}
use Rattle.std.proofs.Common.{refl, sym, subst, arith, inl, inr}
use Rattle.std.proofs.lemmas.Option.{get_or_from_slice_get, slice_get_within}
use Rattle.rv_image_types.specs.declared.images.ImageParts.{ImageParts}
use Rattle.cl_rank.specs.declared.stops.Stop.{Stop}
use Rattle.cl_record.proofs.Elements.{at_below}
use Rattle.cl_deeds.specs.Orders.{IsOrder}
use Rattle.cl_record.specs.Plans.{HasPlans, IsPlan}
use Rattle.cl_record.specs.declared.plans.Plan.{Plan}
use Rattle.cl_record.specs.declared.records.Record.{Record}
use Rattle.cl_threads.specs.Cuts.{AreBy, IsBy, IsRunUntil}
use Rattle.cl_threads.specs.Telling.{IsNoneTold}
use Rattle.cl_threads.specs.Runs.{IsThreadRun}
use Rattle.cl_threads.specs.declared.until.Until.{Until}

-- a plan that was cut is one of the same harts
cut_is_plan : (until : Until) (harts : ℕ) (plan cut : Plan) (stop : Stop) → IsPlan harts plan
    → IsBy until plan cut stop → IsPlan harts cut
cut_is_plan Until.Planned harts plan cut stop is by = subst (IsPlan harts) (sym by) is
cut_is_plan Until.Told harts plan cut stop is (inl by) = subst (IsPlan harts) (sym by) is
cut_is_plan Until.Told harts plan cut stop is (inr was) = record {
  is_order = subst (λ order. IsOrder harts order.items) (sym was.order_stays) is.is_order;
  least_budget = was.some;
  most_budget = let fewer = was.fewer in let most = is.most_budget in omega (arith, fewer, most);
}

-- what holds of all holds of each
at : {X : Type 0} (P : X → Type 0) (xs : List X) (i : ℕ) (x : X) → All P xs → slice_get xs i ≡ Some x → P x
at P xs i x all there = subst P (get_or_from_slice_get xs i x x there) (all i x (slice_get_within xs i x there))

pub cuts_planned : (until : Until) (image : ImageParts) (plans cuts : List Plan) (stops : List Stop)
    → HasPlans image plans → AreBy until plans cuts stops → HasPlans image cuts
cuts_planned until image plans cuts stops has are = record {
  one_each = let a = are.one_each in let b = has.one_each in omega (arith, a, b);
  are_plans = λ r other below.
      let cut = at_below cuts r below in
      let plan = at_below plans r (let a = are.one_each in omega (arith, below, a)) in
      let by = are.each r plan.0 cut.0 plan.1 cut.1 in
      subst (IsPlan image.harts) (sym (get_or_from_slice_get cuts r cut.0 other cut.1))
      (cut_is_plan until image.harts plan.0 cut.0 by.0 (at (IsPlan image.harts) plans r plan.0 has.are_plans plan.1) by.2);
}

-- lists with the same elements
same_lists : {X : Type 0} (xs ys : List X) → length xs ≡ length ys
    → ((i : ℕ) (x y : X) → slice_get xs i ≡ Some x → slice_get ys i ≡ Some y → x ≡ y) → xs ≡ ys
same_lists [] [] many same = refl
same_lists (x ∷ xs) (y ∷ ys) many same =
    λ i. same 0 x y refl refl i ∷ same_lists xs ys (omega (arith, many)) (λ n. same (suc n)) i
same_lists [] (y ∷ ys) many same = absurd (omega (arith, many))
same_lists (x ∷ xs) [] many same = absurd (omega (arith, many))

-- ranks that go by their plans go by none that was cut
pub planned_same : (plans cuts : List Plan) (stops : List Stop) → AreBy Until.Planned plans cuts stops → cuts ≡ plans
planned_same plans cuts stops are =
    same_lists cuts plans are.one_each (λ r cut plan at_cut at_plan. (are.each r plan cut at_plan at_cut).2)

pub planned_whole : (image : ImageParts) (plans : List Plan) (left : Record) → IsRunUntil Until.Planned image plans left
    → IsThreadRun image plans left
planned_whole image plans left ran =
    subst (λ ps. IsThreadRun image ps left) (planned_same plans ran.cuts left.stops.items ran.are_by) ran.run

-- so did those of which none was told to stop
pub untold_whole : (image : ImageParts) (plans : List Plan) (left : Record) → IsRunUntil Until.Told image plans left
    → IsNoneTold plans left → IsThreadRun image plans left
untold_whole image plans left ran none =
    subst (λ ps. IsThreadRun image ps left) (same_lists ran.cuts plans ran.are_by.one_each own) ran.run
  where
    own : (r : ℕ) (cut plan : Plan) → slice_get ran.cuts r ≡ Some cut → slice_get plans r ≡ Some plan → cut ≡ plan
    own r cut plan at_cut at_plan =
        let by = ran.are_by.each r plan cut at_plan at_cut in
        elim by.2 [
          | inl same ↦ same
          | inr was ↦
              let low = slice_get_within ran.cuts r cut at_cut in
              let cuts = ran.run.planned.one_each in
              let traces = ran.run.traces_count in
              let ranks = ran.run.ranks_count in
              let trace = at_below left.traces.items r (omega (arith, low, cuts, traces)) in
              let state = at_below left.ranks.items r (omega (arith, low, cuts, ranks)) in
              let one = ran.run.each r cut trace.0 state.0 by.0 at_cut trace.1 state.1 by.1 in
              let within = one.in_budget in
              let full = none r plan by.0 trace.0 at_plan by.1 trace.1 was.told in
              let fewer = was.fewer in
              absurd (omega (arith, within, full, fewer))
        ]

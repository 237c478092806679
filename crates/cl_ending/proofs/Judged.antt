-- Runs on one thread that go by their plans to the end, and faults.
use Rattle.std.specs.Prelude.{ℕ, ◌≡◌, ◌≤◌, Bool, List, slice_get, Some, false, true, Result, Err, IfErr}
use Rattle.std.proofs.Common.{refl, ap, sym, ◌∙◌, subst, arith}
use Rattle.std.proofs.lemmas.Option.{same_Some}
use Rattle.std.proofs.lemmas.Result.{IfErr-at_err}
use Rattle.rv_image_types.specs.declared.images.ImageParts.{ImageParts}
use Rattle.cl_run.specs.Below.{IsArrivedRun}
use Rattle.cl_ending.specs.DeadEnds.{IsFreeEnd, IsStuckAt}
use Rattle.cl_ending.specs.Judged.{IsJudged}
use Rattle.cl_record.specs.Records.{IsMergedRun}
use Rattle.cl_record.specs.declared.plans.Plan.{Plan}
use Rattle.cl_record.specs.declared.records.Record.{Record}
use Rattle.cl_record.specs.declared.records.RunFault.{RunFault}
use Rattle.cl_record.specs.declared.records.RunFault.TheVariants as faults
use Rattle.cl_run.specs.Runs.{IsOneRun}

pub whole_judged : (image : ImageParts) (plans : List Plan) (order : List ℕ) (left : Record)
    → IsOneRun image plans order left → IsMergedRun image left → IsArrivedRun image left → (stuck : Bool)
    → (stuck ≡ false → IsFreeEnd image left) → (stuck ≡ true → IsStuckAt image left)
    → IsJudged image plans order (record { left = left; stuck = stuck })
whole_judged image plans order left run merged arrived stuck free at = record {
  run = record {
    cuts = plans;
    are_cuts = record {
      one_each = refl;
      each = λ r plan cut at at_cut.
          let same = same_Some plan cut (sym at ∙ at_cut) in record {
            order_stays = ap (λ (p : Plan). p.order) (sym same);
            no_more = subst (λ (p : Plan). p.budget ≤ plan.budget) same (omega arith);
          };
    };
    run = run;
  };
  whole = λ none. run;
  free = free;
  stuck = at;
  merged = merged;
  arrived = arrived;
}

-- for want of memory alone there is no fault of the plans
pub no_plans : {X : Type 0} (r : Result X RunFault) → IfErr r (λ fault. fault ≡ faults.Memory) → r ≡ Err faults.Plans → ⊥
no_plans r fault e =
    let bad : faults.Plans ≡ faults.Memory = IfErr-at_err (λ (f : RunFault). f ≡ faults.Memory) e fault in absurd (cc)

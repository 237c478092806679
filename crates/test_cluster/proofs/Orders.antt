-- Who takes the first turn, and who took all.
use Rattle.std.specs.Prelude.{ℕ, zero, suc, ◌≡◌, ◌≢◌, ◌≤◌, ◌<◌, List, [], ◌∷◌, length, map, slice_get, All, Contains}
use Rattle.std.specs.Prelude.{Some, Result, Ok, Err, IfOk}
use Rattle.std.proofs.Common.{refl, sym, ◌∙◌, ap, subst, arith}
use Rattle.std.proofs.lemmas.List.Elements.{All-contains}
use Rattle.rv_image_types.specs.declared.images.ImageParts.{ImageParts}
use Rattle.cl_machine.specs.declared.steps.Step.{Step}
use Rattle.cl_rank.specs.declared.stops.Stop.TheVariants.{Budget}
use Rattle.cl_deeds.specs.Orders.{in_slot}
use Rattle.cl_record.specs.declared.plans.Plan.{Plan}
use Rattle.cl_record.specs.declared.records.Record.{Record}
use Rattle.cl_run.specs.Rounds.{GoesRound}
use Rattle.cl_run.specs.Runs.{IsOneRun}
use Rattle.test_cluster.specs.Runs.{AllBudgetsAreUsed, IsLedOffBy, LeadsOff}

-- whoever an order names first takes no turn at all, or the first
leads : (order : List ℕ) (takers : List ℕ) → GoesRound order 0 takers → LeadsOff (in_slot order 0) takers
leads order [] goes = tt
leads order (taker ∷ takers) goes = first goes.0 goes.2 goes.3
  where
    first : (slot : ℕ) → in_slot order slot ≡ taker
        → ((passed : ℕ) → 0 ≤ passed → passed < slot → All (λ later. later ≢ in_slot order passed) (taker ∷ takers))
        → Contains (taker ∷ takers) (in_slot order 0) → taker ≡ in_slot order 0
    first zero is passed has = sym is
    first (suc slot) is passed has =
        absurd (All-contains (λ later. later ≢ in_slot order 0) (taker ∷ takers) (in_slot order 0)
        (passed 0 (omega arith) (omega arith)) has refl)

led_off : (image : ImageParts) (plans : List Plan) (order : List ℕ) (left : Record) → order ≡ 1 ∷ 0 ∷ []
    → IsOneRun image plans order left
    → IsLedOffBy 1 image left
led_off image plans order left is run = record {
  steps = run.steps;
  final = run.final;
  run = run.run;
  end = run.end;
  leads = leads (1 ∷ 0 ∷ []) (map (λ (step : Step). step.rank) run.steps)
      (subst (λ o. GoesRound o 0 (map (λ (step : Step). step.rank) run.steps)) is run.round);
}

pub led_off_ok : {E : Type 0} (image : ImageParts) (plans : List Plan) (order : List ℕ) (r : Result Record E)
    → order ≡ 1 ∷ 0 ∷ []
    → IfOk r (IsOneRun image plans order) → IfOk r (IsLedOffBy 1 image)
led_off_ok image plans order (Ok left) is run = led_off image plans order left is run
led_off_ok image plans order (Err e) is run = tt

used : (image : ImageParts) (plans : List Plan) (order : List ℕ) (left : Record) → IsOneRun image plans order left
    → AllBudgetsAreUsed plans left
used image plans order left run rank plan trace state planned traced stands stopped =
    (run.each rank plan trace state Budget planned traced stands stopped).has_cause.1

pub used_ok : {E : Type 0} (image : ImageParts) (plans : List Plan) (order : List ℕ) (r : Result Record E)
    → IfOk r (IsOneRun image plans order)
    → IfOk r (AllBudgetsAreUsed plans)
used_ok image plans order (Ok left) run = used image plans order left run
used_ok image plans order (Err e) run = tt

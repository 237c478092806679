-- Whether ranks were told to stop, one more at a time.
use Rattle.std.specs.Prelude.{ℕ, zero, suc, ◌≡◌, ◌⊎◌, ◌+◌, ◌<◌, ◌≤◌, List, length, slice_get, Some}
use Rattle.std.proofs.Common.{refl, sym, ap, ◌∙◌, subst, inl, inr, arith}
use Rattle.std.proofs.lemmas.Option.{same_Some}
use Rattle.cl_rank.specs.declared.stops.Stop.{Stop}
use Rattle.cl_record.specs.declared.plans.Plan.{Plan}
use Rattle.cl_trace.specs.Traces.{TraceView}

-- whoever of the first ranks says Budget used up its turns
abbrev pub NoneBefore : List Plan → List Stop → List TraceView → ℕ → Type 0
NoneBefore plans stops traces k =
    (r : ℕ) (plan : Plan) (stop : Stop) (trace : TraceView) → r < k → slice_get plans r ≡ Some plan
    → slice_get stops r ≡ Some stop → slice_get traces r ≡ Some trace → stop ≡ Stop.Budget
    → plan.budget ≤ length trace.events

here_or_before : (r k : ℕ) → r < k + 1 → (r < k) ⊎ (r ≡ k)
here_or_before zero zero below = inr refl
here_or_before zero (suc k) below = inl (omega arith)
here_or_before (suc r) zero below = absurd (omega (arith, below))
here_or_before (suc r) (suc k) below = elim (here_or_before r k (omega (arith, below))) [
  | inl less ↦ inl (omega (arith, less))
  | inr same ↦ inr (ap suc same)
]

pub none_more : (plans : List Plan) (stops : List Stop) (traces : List TraceView) (k : ℕ) (own : Plan) (end : Stop)
    (events : TraceView) → slice_get plans k ≡ Some own → slice_get stops k ≡ Some end
    → slice_get traces k ≡ Some events → (end ≡ Stop.Budget → own.budget ≤ length events.events)
    → NoneBefore plans stops traces k → NoneBefore plans stops traces (k + 1)
none_more plans stops traces k own end events at_own at_end at_events used so_far r plan stop trace below at_plan at_stop
    at_trace is = elim (here_or_before r k below) [
      | inl less ↦ so_far r plan stop trace less at_plan at_stop at_trace is
      | inr same ↦
          let same_plan : own ≡ plan = same_Some own plan (sym at_own ∙ ap (slice_get plans) (sym same) ∙ at_plan) in
          let same_stop : end ≡ stop = same_Some end stop (sym at_end ∙ ap (slice_get stops) (sym same) ∙ at_stop) in
          let same_trace : events ≡ trace =
          same_Some events trace (sym at_events ∙ ap (slice_get traces) (sym same) ∙ at_trace) in
          subst (λ (p : Plan). p.budget ≤ length trace.events) same_plan
          (subst (λ (t : TraceView). own.budget ≤ length t.events) same_trace (used (same_stop ∙ is)))
    ]

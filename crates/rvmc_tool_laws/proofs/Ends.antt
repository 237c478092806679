-- The ends of ranks that threads ran.
use Rattle.std.proofs.Common.{◌≡◌, ◌∙◌, ℕ, zero, suc, ◌<◌, ◌≤◌, Bool, true, false, List, [], ◌∷◌, length, Some, ap, inl, inr, refl, subst, sym, arith}
use Rattle.std.specs.Prelude.{slice_get, slice_index_or}
use Rattle.std.proofs.lemmas.Option.{same_Some}
use Rattle.cl_rank.specs.declared.stops.Stop.{Stop}
use Rattle.cl_rank.specs.declared.stops.Stop.TheVariants.{AllEnded, Budget, Calls, ClockFull, Memory}
use Rattle.cl_record.specs.Plans.{IsPlan}
use Rattle.cl_record.specs.declared.plans.Plan.{Plan}
use Rattle.cl_state.specs.Room.{rank_of}
use Rattle.cl_state.specs.declared.state.RankState.{RankState}
use Rattle.cl_threads.specs.Alone.{StopsFor}
use Rattle.cl_trace.specs.Traces.{TraceView}
use Rattle.rvmc_answers.specs.Plans.{IsPlanOf, listed}
use Rattle.rvmc_tool_laws.specs.Answers.{FitsStop, StopsFitLaw}
use Rattle.rvmc_report.specs.Report.{RankEnd, ends_of, rank_end, rank_ends}

-- the end of a rank is of its state, its trace and its stop
record IsEndAt (states : List RankState) (traces : List TraceView) (stops : List Stop) (r : ℕ) (end : RankEnd) : Type 0 where
  pub state : RankState
  pub trace : TraceView
  pub stop : Stop
  pub state_at : slice_get states r ≡ Some state
  pub trace_at : slice_get traces r ≡ Some trace
  pub stop_at : slice_get stops r ≡ Some stop
  pub is : rank_end state (length trace.events) (Some stop) ≡ end

end_at : (states : List RankState) (traces : List TraceView) (stops : List Stop) (r : ℕ) (end : RankEnd) → slice_get (ends_of states traces stops) r ≡ Some end → IsEndAt states traces stops r end
end_at [] traces stops r end e = absurd (cc)
end_at (state ∷ states) [] stops r end e = absurd (cc)
end_at (state ∷ states) (trace ∷ traces) [] r end e = absurd (cc)
end_at (state ∷ states) (trace ∷ traces) (stop ∷ stops) zero end e =
    record { state = state; trace = trace; stop = stop; state_at = refl; trace_at = refl; stop_at = refl; is = same_Some _ _ e }
end_at (state ∷ states) (trace ∷ traces) (stop ∷ stops) (suc r) end e =
    let at = end_at states traces stops r end e in
    record { state = at.state; trace = at.trace; stop = at.stop; state_at = at.state_at; trace_at = at.trace_at; stop_at = at.stop_at; is = at.is }

each_ends : (states : List RankState) (traces : List TraceView) (stops : List Stop) → length traces ≡ length states → length stops ≡ length states → length (ends_of states traces stops) ≡ length states
each_ends [] traces stops t s = refl
each_ends (state ∷ states) [] stops t s = absurd (omega (arith, t))
each_ends (state ∷ states) (trace ∷ traces) [] t s = absurd (omega (arith, s))
each_ends (state ∷ states) (trace ∷ traces) (stop ∷ stops) t s = ap suc (each_ends states traces stops (omega (arith, t)) (omega (arith, s)))

there : {X : Type 0} (xs : List X) (k : ℕ) (x : X) → slice_get xs k ≡ Some x → k < length xs
there [] k x e = absurd (cc)
there (y ∷ xs) zero x e = omega arith
there (y ∷ xs) (suc k) x e = let below = there xs k x e in omega (arith, below)

element : {X : Type 0} (xs : List X) (k : ℕ) → k < length xs → (x : X) × (slice_get xs k ≡ Some x)
element [] k below = absurd (omega (arith, below))
element (x ∷ xs) zero below = (x, refl)
element (x ∷ xs) (suc k) below = element xs k (omega (arith, below))

index_is : {X : Type 0} (xs : List X) (k : ℕ) (x : X) → slice_get xs k ≡ Some x → slice_index_or xs k x ≡ x
index_is [] k x e = absurd (cc)
index_is (y ∷ xs) zero x e = same_Some y x e
index_is (y ∷ xs) (suc k) x e = index_is xs k x e

not_true : (b : Bool) → ¬ (b ≡ true) → b ≡ false
not_true true isnt = absurd (isnt refl)
not_true false isnt = refl

fits : (plan : Plan) (state : RankState) (trace : TraceView) (stop : Stop) → 1 ≤ plan.budget → StopsFor plan (rank_of state) trace.events stop → FitsStop plan.budget (rank_end state (length trace.events) (Some stop)) (Some stop)
fits plan state trace AllEnded least is = is
fits plan state trace Budget least is = (not_true _ is.0, is.1, omega (arith, is.1, least))
fits plan state trace Memory least is = (not_true _ is.runs, is.left)
fits plan state trace (ClockFull clock) least (full, inl own) = (not_true _ own.1, own.2)
fits plan state trace (ClockFull clock) least (full, inr refused) = (not_true _ refused.0.runs, refused.0.left)
fits plan state trace (Calls count) least is = (not_true _ is.1.runs, is.1.left)

pub stops_fit : StopsFitLaw
stops_fit image budget harts plans text status of of_run =
    let left = of_run.left in
    let run = of_run.run.apart in
    let states = left.ranks.items in
    let traces = left.traces.items in
    let stops = left.stops.items in
    let count = each_ends states traces stops (run.traces_count ∙ sym run.ranks_count) (run.stops_count ∙ sym run.ranks_count) ∙ run.ranks_count in (
      rank_ends left,
      of_run.told,
      count,
      λ r end at.
          let found = end_at states traces stops r end at in
          let inside = there (rank_ends left) r end at in
          let below : r < length plans = omega (arith, inside, count, of.one_each) in
          let plan = element plans r below in
          let same : IsPlanOf (listed harts image.harts) budget plan.0 = subst (λ p. IsPlanOf (listed harts image.harts) budget p) (index_is plans r plan.0 plan.1) (of.same r plan.0 below) in
          let right : IsPlan image.harts plan.0 = subst (λ p. IsPlan image.harts p) (index_is plans r plan.0 plan.1) (run.planned.are_plans r plan.0 below) in
          let each = run.each r plan.0 found.trace found.state found.stop plan.1 found.trace_at found.state_at found.stop_at in
          let fit = fits plan.0 found.state found.trace found.stop right.least_budget each.stops in
          subst (λ b. FitsStop b end end.stop) same.budget_is (subst (λ e. FitsStop plan.0.budget e e.stop) found.is fit),
    )

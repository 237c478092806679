-- The ends of ranks to which steps led.
use Rattle.std.proofs.Common.{◌≡◌, ◌∙◌, ◌||◌, ℕ, zero, suc, ◌+◌, ◌<◌, cond, eqb, get_or, take, Bool, true, false, if◌then◌else◌, List, [], ◌∷◌, drop, length, map, refl, sym, ap, subst, arith}
use Rattle.std.specs.Prelude.{None, Option, Some, slice_get}
use Rattle.std.specs.List.{list_any}
use Rattle.std.proofs.lemmas.List.{length-map}
use Rattle.std.proofs.lemmas.List.Filters.{length-filter_more}
use Rattle.std.proofs.lemmas.Option.{same_Some}
use Rattle.rv_hart.specs.State.{State}
use Rattle.cl_machine.specs.Merge.{IsMerge}
use Rattle.cl_machine.specs.declared.steps.Step.{Step}
use Rattle.cl_rank.specs.declared.stops.Stop.{Stop}
use Rattle.cl_rank.specs.declared.stops.Stop.TheVariants.{AllEnded}
use Rattle.cl_record.specs.Records.{step_by, steps_by, steps_in}
use Rattle.cl_record.specs.declared.records.Record.{Record}
use Rattle.cl_replay_laws.proofs.Records.{merged_replays}
use Rattle.cl_replay.specs.declared.states.ClusterState.{ClusterState}
use Rattle.cl_state.specs.Rank.{Rank}
use Rattle.cl_state.specs.Room.{rank_of}
use Rattle.cl_state.specs.declared.state.RankState.{RankState}
use Rattle.cl_trace.specs.Traces.{TraceView}
use Rattle.rvmc_report.specs.Recorded.{are_stopped, reached_ends, reached_end, reached_from, stop_by_harts, turns_in}
use Rattle.rvmc_report.specs.RecordedLaws.{SameReportLaw, told_by_harts}
use Rattle.rvmc_report.specs.Report.{RankEnd, ends_of, has_trapped, is_cut_short, rank_end, rank_ends, report, status_of, wants_memory}

-- ---- the status

-- what a test tells of an end it tells of its rank's state, whatever the number is
any_reached : (p : RankEnd → Bool) (q : RankState → Bool) (steps : List Step) → ((number : ℕ) (state : RankState) → p (reached_end steps number state) ≡ q state)
    → (number : ℕ) (states : List RankState) → list_any p (reached_from steps number states) ≡ list_any q states
any_reached p q steps same number [] = refl
any_reached p q steps same number (state ∷ states) =
    ap (λ b. b || list_any p (reached_from steps (number + 1) states)) (same number state)
    ∙ ap (λ b. q state || b) (any_reached p q steps same (number + 1) states)

-- no cause that harts tell is want of memory
none_wants : (harts : List State) → wants_memory (stop_by_harts harts) ≡ false
none_wants harts = by (are_stopped harts) refl
  where
    by : (b : Bool) → are_stopped harts ≡ b → wants_memory (stop_by_harts harts) ≡ false
    by true e = ap (λ b. wants_memory (if b then Some AllEnded else None)) e
    by false e = ap (λ b. wants_memory (if b then Some AllEnded else None)) e

never : {X : Type 0} (xs : List X) → list_any (λ _. false) xs ≡ false
never [] = refl
never (x ∷ xs) = never xs

pub status_by_states : (steps : List Step) (state : ClusterState)
    → status_of (reached_ends steps state) ≡ (if list_any (λ (s : RankState). has_trapped s.harts.items) state.ranks.items then 3
    else (if list_any (λ (s : RankState). is_cut_short (stop_by_harts s.harts.items)) state.ranks.items then 4
    else 0))
status_by_states steps state =
    let states = state.ranks.items in
    let wants = any_reached (λ end. wants_memory end.stop) (λ _. false) steps (λ n s. none_wants s.harts.items) 0 states ∙ never states in
    rw (
      wants,
      any_reached (λ end. has_trapped end.harts) (λ s. has_trapped s.harts.items) steps (λ n s. refl) 0 states,
      any_reached (λ end. is_cut_short end.stop) (λ s. is_cut_short (stop_by_harts s.harts.items)) steps (λ n s. refl) 0 states,
    ) refl

-- ---- the turns

-- of one step more
pub counted : (steps : List Step) (rank i : ℕ) (step : Step) → i < length steps → step ≡ get_or steps i step
    → turns_in (take (i + 1) steps) rank ≡ turns_in (take i steps) rank + cond (eqb step.rank rank) 1 0
counted steps rank i step below is =
    length-filter_more (λ (s : Step). eqb s.rank rank) steps i step below
    ∙ ap (λ (s : Step). turns_in (take i steps) rank + cond (eqb s.rank rank) 1 0) (sym is)

-- ---- the report of a run that was recorded

-- the end of a rank, of the rank alone
abbrev end_of : Rank → ℕ → RankEnd
end_of rank turns = record { output = rank.out; harts = rank.harts; stop = stop_by_harts rank.harts; turns = turns }

first_is : {X : Type 0} (x y : X) (xs ys : List X) → x ∷ xs ≡ y ∷ ys → x ≡ y
first_is x y xs ys same = same_Some x y (ap (λ zs. slice_get zs 0) same)

rest_is : {X : Type 0} (x y : X) (xs ys : List X) → x ∷ xs ≡ y ∷ ys → xs ≡ ys
rest_is x y xs ys same = ap (drop 1) same

-- ranks that are alike, with as many turns, have alike ends
reached_is : (steps : List Step) (states lefts : List RankState) (traces : List TraceView) (stops : List Stop) (number : ℕ)
    → map rank_of states ≡ map rank_of lefts → length traces ≡ length lefts → length stops ≡ length lefts
    → ((k : ℕ) (trace : TraceView) → slice_get traces k ≡ Some trace → turns_in steps (number + k) ≡ length trace.events)
    → reached_from steps number states ≡ map told_by_harts (ends_of lefts traces stops)
reached_is steps [] [] traces stops number same t s turns = refl
reached_is steps [] (left ∷ lefts) traces stops number same t s turns = absurd (let lengths = ap length same in omega (arith, lengths))
reached_is steps (state ∷ states) [] traces stops number same t s turns = absurd (let lengths = ap length same in omega (arith, lengths))
reached_is steps (state ∷ states) (left ∷ lefts) [] stops number same t s turns = absurd (omega (arith, t))
reached_is steps (state ∷ states) (left ∷ lefts) (trace ∷ traces) [] number same t s turns = absurd (omega (arith, s))
reached_is steps (state ∷ states) (left ∷ lefts) (trace ∷ traces) (stop ∷ stops) number same t s turns =
    let rank = first_is (rank_of state) (rank_of left) (map rank_of states) (map rank_of lefts) same in
    let zero_more : number ≡ number + 0 = omega arith in
    let here = ap (turns_in steps) zero_more ∙ turns 0 trace refl in
    let head : reached_end steps number state ≡ told_by_harts (rank_end left (length trace.events) (Some stop)) =
    ap (λ r. end_of r (turns_in steps number)) rank ∙ ap (end_of (rank_of left)) here in
    let rest = reached_is steps states lefts traces stops (number + 1) (rest_is (rank_of state) (rank_of left) (map rank_of states) (map rank_of lefts) same)
    (omega (arith, t)) (omega (arith, s))
    (λ k other at. let next : number + 1 + k ≡ number + suc k = omega arith in ap (turns_in steps) next ∙ turns (suc k) other at) in
    ap (λ e. e ∷ reached_from steps (number + 1) states) head ∙ ap (λ es. told_by_harts (rank_end left (length trace.events) (Some stop)) ∷ es) rest

-- in a merge each rank has as many steps as events
turns_are : (left : Record) (steps : List Step) → IsMerge (steps_in left) steps → (k : ℕ) (trace : TraceView) → slice_get left.traces.items k ≡ Some trace
    → turns_in steps (0 + k) ≡ length trace.events
turns_are left steps sorted k trace at =
    let same : 0 + k ≡ k = omega arith in
    ap (turns_in steps) same ∙ ap length (sorted.all k) ∙ ap (λ found. length (steps_by k found)) at ∙ length-map trace.events (step_by k)

pub same_report : SameReportLaw
same_report image left steps text status merged each sorted is =
    let shown = (merged_replays image left steps merged sorted).shows is.state is.reached in
    let same : reached_ends steps is.state ≡ map told_by_harts (rank_ends left) =
    reached_is steps (is.state).ranks.items left.ranks.items left.traces.items left.stops.items 0 shown.ranks_are each.traces each.stops (turns_are left steps sorted) in
    (is.told ∙ ap report same, is.status_is ∙ ap status_of same)

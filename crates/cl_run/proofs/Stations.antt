-- What holds of one rank as a run goes on.
use Rattle.std.specs.Prelude.{ℕ, ◌≡◌, ◌<◌, ◌≤◌, ◌+◌, ◌%◌, ◌^◌, false, cond, List, [], ◌∷◌, ◌++◌}
use Rattle.std.specs.Prelude.{length, map, eqb, slice_get, slice_index, Option, None, Some, IfSome, is_some, All}
use Rattle.std.specs.List.{filter, filter_map}
use Rattle.std.proofs.Common.{refl, sym, ap, ◌∙◌, subst, arith}
use Rattle.std.proofs.Math.Nat.{mod-add-mod}
use Rattle.std.proofs.lemmas.Bool.{eq-eqb}
use Rattle.std.proofs.lemmas.List.{append-nil, length-append, map-append}
use Rattle.std.proofs.lemmas.List.Elements.{filter-append, filter_map-append, All-append, All-cons, All-nil}
use mathlib.Core.Logic.{inl, inr}
use Rattle.cl_journal.specs.Calls.{IsRefusal}
use Rattle.cl_journal.specs.Journal.{entries_by, is_by}
use Rattle.cl_journal.specs.Replaying.{HubHistory, clock_of}
use Rattle.cl_journal.specs.declared.entries.Entry.{Entry}
use Rattle.cl_journal.specs.declared.journal.HubFault.{HubFault}
use Rattle.cl_journal.specs.declared.journal.HubFault.TheVariants as fault
use Rattle.cl_trace.specs.declared.events.Event.{Event}
use Rattle.cl_state.specs.Rank.{Rank}
use Rattle.cl_state.proofs.Moves.{told_at}
use Rattle.cl_deeds.proofs.Alone.{clock_moved}
use Rattle.cl_deeds.specs.Deeds.{Deed, answer_of, event_of, kind_of, Act, request_of}
use Rattle.cl_state.specs.Asked.{asked}
use Rattle.cl_deeds.specs.Turns.{IsActive}
use Rattle.cl_rank.specs.Turning.{Answered, IsCause, Refuses, StopHolds, stop_of}
use Rattle.cl_rank.specs.declared.stops.Stop.{Stop}
use Rattle.cl_record.specs.declared.plans.Plan.{Plan}
use Rattle.cl_machine.specs.declared.steps.Step.{Step}
use Rattle.cl_record.specs.Seats.{Station, Stops, TakesTurn}
use Rattle.cl_machine.specs.Order.{of_rank}
use Rattle.cl_deeds.specs.Orders.{in_slot}
use Rattle.cl_machine.specs.Product.{entry_of}
use Rattle.cl_machine.specs.ProductSteps.{step_of}
use Rattle.cl_record.specs.Records.{AsksHub, HasTurn, hub_calls, is_hub, step_by}
use Rattle.cl_run.specs.Runs.{HasCause}
use Rattle.cl_record.proofs.Elements.{last_or_before}
use Rattle.cl_run.specs.UnderWay.{IsSoFar}
use Rattle.cl_run.proofs.Hubs.{HubPart, hub_part, listed}
use Rattle.cl_machine.proofs.Lists.{filter-keeps, filter-skips}

entries_more : (r : ℕ) (before after : List Entry) (more : List Entry) → after ≡ before ++ more
    → entries_by r after ≡ entries_by r before ++ entries_by r more
entries_more r before after more e = ap (entries_by r) e ∙ filter-append (is_by r) before more

hub_calls_more : (es : List Event) (e : Event)
    → hub_calls (es ++ e ∷ []) ≡ hub_calls es + length (cond (is_hub e.kind) (e ∷ []) [])
hub_calls_more es e =
    ap (λ (xs : List Event). length xs) (filter-append (λ (x : Event). is_hub x.kind) es (e ∷ []))
    ∙ length-append (filter (λ (x : Event). is_hub x.kind) es) (filter (λ (x : Event). is_hub x.kind) (e ∷ []))

-- a hub event has a request, any other none
abbrev stands : Event → Type 0
stands e = is_some e.request ≡ is_hub e.kind

request_stands : (a : Act) → is_some (request_of a) ≡ is_hub (kind_of a)
request_stands Act.Plain = refl
request_stands Act.Local = refl
request_stands (Act.Hub clock request reply) = refl
request_stands (Act.Ready link part bytes) = refl
request_stands (Act.Take link part gate bytes) = refl
request_stands (Act.Miss link part) = refl
request_stands (Act.Freed link part gate) = refl
request_stands Act.Held = refl
request_stands Act.Idle = refl

-- the rank took a turn
module _ (steps : List Step) (before after : HubHistory) (r : ℕ) (plan : Plan) (s t : Station) (turn : TakesTurn Answered plan s before t after)
    (so : IsSoFar steps before.entries r plan s) where
  d : Deed
  d = turn.deed

  is : d.rank ≡ r
  unfolding d
  is = turn.rank_is ∙ so.number_is

  part : HubPart before after d
  unfolding d
  part = hub_part before after turn.deed turn.tells

  own_entries : entries_by r after.entries ≡ entries_by r before.entries ++ listed (entry_of d)
  own_entries = entries_more r before.entries after.entries (listed (entry_of d)) part.entries_are
      ∙ ap (λ es. entries_by r before.entries ++ es) (subst (λ q. entries_by q (listed (entry_of d)) ≡ listed (entry_of d)) is part.own)

  few : length (entries_by r before.entries) + length (listed (entry_of d)) ≤ 1048576
  few = subst (λ q. length (entries_by q before.entries) ≤ 1048576
      → length (entries_by q before.entries) + length (listed (entry_of d)) ≤ 1048576) is part.few so.few_calls

  longer : length t.events ≡ length s.events + 1
  longer = ap (λ (es : List Event). length es) turn.traced ∙ length-append s.events (event_of turn.deed ∷ [])

  same_step : step_of d ≡ step_by r (event_of d)
  same_step = λ i. record { rank = is i; hart = d.hart; stamp = d.stamp; kind = kind_of d.act }

  pub after_turn : IsSoFar (steps ++ step_of turn.deed ∷ []) after.entries r plan t
  unfolding d
  after_turn = record {
    number_is = ap (λ (x : Rank). x.site.number) turn.moves.4
        ∙ ap (λ site. site.number) (told_at s.rank d.hart (answer_of d.act) d.stamp).site ∙ so.number_is;
    low = subst (λ n. n < 2 ^ 62) (sym (clock_moved s.rank t.rank d turn.moves)) turn.moves.1;
    budget_is = turn.budget_stays ∙ so.budget_is;
    in_budget = omega (arith, turn.turns_left, so.budget_is, longer);
    requests_stand = subst (All stands) (sym turn.traced)
        (All-append stands s.events (event_of d ∷ []) so.requests_stand (All-cons stands (event_of d) [] (request_stands d.act) (All-nil stands)));
    next_is = turn.next_is
        ∙ ap (λ n. (n + 1) % length plan.order.items) so.next_is
        ∙ mod-add-mod (length s.events) (length plan.order.items) 1
        ∙ ap (λ n. n % length plan.order.items) (sym (length-append s.events (event_of d ∷ [])))
        ∙ ap (λ (es : List Event). length es % length plan.order.items) (sym turn.traced);
    steps_are = filter-append (λ (e : Step). eqb e.rank r) steps (step_of d ∷ [])
        ∙ ap (λ es. of_rank (λ (e : Step). e.rank) r steps ++ es) (filter-keeps (λ (e : Step). eqb e.rank r) (step_of d) [] (eq-eqb d.rank r is))
        ∙ ap (λ es. es ++ step_of d ∷ []) so.steps_are
        ∙ ap (λ e. map (step_by r) s.events ++ e ∷ []) same_step
        ∙ sym (map-append (step_by r) s.events (event_of d ∷ []))
        ∙ ap (map (step_by r)) (sym turn.traced);
    requests_are = ap (filter_map (λ (e : Event). e.request)) turn.traced
        ∙ filter_map-append (λ (e : Event). e.request) s.events (event_of d ∷ [])
        ∙ (λ i. so.requests_are i ++ (sym part.requests_are) i)
        ∙ sym (map-append (λ (e : Entry). e.request) (entries_by r before.entries) (listed (entry_of d)))
        ∙ ap (map (λ (e : Entry). e.request)) (sym own_entries);
    follows_plan = λ n e at. elim (last_or_before s.events (event_of d) e n (subst (λ es. slice_get es n ≡ Some e) turn.traced at)) [
      | inl old ↦ so.follows_plan n e old
      | inr new ↦ ap (λ (x : Event). x.hart) (sym new.1) ∙ turn.hart_is ∙ ap (slice_index plan.order.items) so.next_is
          ∙ ap (in_slot plan.order.items) (sym new.0)
    ];
    calls_are = ap hub_calls turn.traced ∙ hub_calls_more s.events (event_of d)
        ∙ (λ i. so.calls_are i + part.count_is i)
        ∙ sym (length-append (entries_by r before.entries) (listed (entry_of d)))
        ∙ ap (λ (es : List Entry). length es) (sym own_entries);
    few_calls = subst (λ (es : List Entry). length es ≤ 1048576) (sym own_entries)
        (subst (λ n. n ≤ 1048576) (sym (length-append (entries_by r before.entries) (listed (entry_of d)))) few);
    has_cause = subst (λ o. IfSome o (HasCause plan t.rank t.events after.entries)) (sym turn.goes_on) tt;
  }

-- another rank took a turn
module _ (steps : List Step) (before after : HubHistory) (r : ℕ) (plan : Plan) (s : Station) (d : Deed) (part : HubPart before after d)
    (other : eqb d.rank r ≡ false) (below : clock_of before < 2 ^ 62) where
  same_entries : entries_by r after.entries ≡ entries_by r before.entries
  same_entries = entries_more r before.entries after.entries (listed (entry_of d)) part.entries_are
      ∙ ap (λ es. entries_by r before.entries ++ es) (part.of_others r other)
      ∙ append-nil (entries_by r before.entries)

  -- a full clock of the hub stays the last one
  same_cause : (stop : Stop) → HasCause plan s.rank s.events before.entries stop
      → HasCause plan s.rank s.events after.entries stop
  same_cause Stop.AllEnded h = h
  same_cause Stop.Budget h = h
  same_cause Stop.Memory h = h
  same_cause (Stop.Calls n) h = h
  same_cause (Stop.ClockFull c) h = (
    h.0,
    elim h.1 [
      | inl own ↦ inl own
      | inr hub ↦ inr (
        elim part.rises [
          | inl same ↦ hub.0 ∙ ap (λ (j : HubHistory). clock_of j) (sym same)
          | inr up ↦ absurd (omega (arith, part.low below, up, hub.0, h.0))
        ],
        hub.1,
        hub.2,
      )
    ],
  )

  same_causes : (o : Option Stop) → IfSome o (HasCause plan s.rank s.events before.entries)
      → IfSome o (HasCause plan s.rank s.events after.entries)
  same_causes None h = tt
  same_causes (Some stop) h = same_cause stop h

  pub after_others_turn : IsSoFar steps before.entries r plan s
      → IsSoFar (steps ++ step_of d ∷ []) after.entries r plan s
  after_others_turn so = record {
    number_is = so.number_is;
    low = so.low;
    budget_is = so.budget_is;
    in_budget = so.in_budget;
    requests_stand = so.requests_stand;
    next_is = so.next_is;
    steps_are = filter-append (λ (e : Step). eqb e.rank r) steps (step_of d ∷ [])
        ∙ ap (λ es. of_rank (λ (e : Step). e.rank) r steps ++ es) (filter-skips (λ (e : Step). eqb e.rank r) (step_of d) [] other)
        ∙ append-nil (of_rank (λ (e : Step). e.rank) r steps)
        ∙ so.steps_are;
    requests_are = so.requests_are ∙ ap (map (λ (e : Entry). e.request)) (sym same_entries);
    follows_plan = so.follows_plan;
    calls_are = so.calls_are ∙ ap (λ (es : List Entry). length es) (sym same_entries);
    few_calls = subst (λ (es : List Entry). length es ≤ 1048576) (sym same_entries) so.few_calls;
    has_cause = same_causes s.stop so.has_cause;
  }

-- the rank stops
module _ (steps : List Step) (before : HubHistory) (r : ℕ) (plan : Plan) (s t : Station) (so : IsSoFar steps before.entries r plan s)
    (below : clock_of before < 2 ^ 62) where
  -- the place in the plan is that of the turn that comes next
  next_hart : (hart : ℕ) → hart ≡ slice_index plan.order.items s.next
      → hart ≡ in_slot plan.order.items (length s.events)
  next_hart hart is = is ∙ ap (slice_index plan.order.items) so.next_is

  asks : (hart : ℕ) (f : HubFault) (after : HubHistory) → hart ≡ slice_index plan.order.items s.next
      → Refuses Answered hart s.rank before after f → AsksHub plan s.rank s.events
  asks hart f after is refused = (refused.0, ap (asked s.rank) (sym (next_hart hart is)) ∙ refused.1)

  has_turn : IsActive s.rank (length s.events) s.budget → HasTurn plan s.rank s.events
  has_turn active = record { runs = active.runs; left = omega (arith, active.left, so.budget_is); low = active.low }

  own_cause : (hart room : ℕ) (stop : Stop) → IsCause hart s.rank room (length s.events) s.budget stop
      → HasCause plan s.rank s.events before.entries stop
  own_cause hart room Stop.AllEnded h = h
  own_cause hart room Stop.Budget h = (h.0, h.1 ∙ so.budget_is)
  own_cause hart room Stop.Memory h = has_turn h.0
  own_cause hart room (Stop.ClockFull c) h = (omega (arith, h.3), inl (sym h.2, h.0, omega (arith, h.1, so.budget_is)))
  own_cause hart room (Stop.Calls n) h = absurd h

  refused_cause : (f : HubFault) → HasTurn plan s.rank s.events → AsksHub plan s.rank s.events
      → IsRefusal before s.rank.site.number s.rank.clock f → HasCause plan s.rank s.events before.entries (stop_of f)
  refused_cause fault.Memory turn asks h = turn
  refused_cause (fault.ClockFull c) turn asks h =
      (omega (arith, below, so.low, h.1, h.2), inr (omega (arith, turn.low, h.1, h.2), turn, asks))
  refused_cause (fault.Calls n) turn asks h =
      let many = subst (λ q. 1048576 ≤ length (entries_by q before.entries)) so.number_is h.1 in
      (h.0, omega (arith, h.0, many, so.calls_are, so.few_calls), turn, asks)

  cause : (hart room : ℕ) (stop : Stop) (after : HubHistory) → hart ≡ slice_index plan.order.items s.next
      → StopHolds Answered hart s.rank room (length s.events) s.budget before after stop
      → HasCause plan s.rank s.events before.entries stop
  cause hart room stop after is h = elim h [
    | inl own ↦ own_cause hart room stop own.0
    | inr refused ↦
        let f = refused.1.0 in
        subst (HasCause plan s.rank s.events before.entries) (sym refused.1.1)
        (refused_cause f (has_turn refused.0) (asks hart f after is refused.1.3) refused.1.3.2.0)
  ]

  pub after_stop : (after : HubHistory) → Stops Answered plan s before t after → IsSoFar steps before.entries r plan t
  after_stop after h =
      let is : record s { stop = Some h.stop } ≡ t =
      (λ i. record {
        rank = (sym h.rank_stays) i;
        events = (sym h.events_stay) i;
        sides = (sym h.sides_stay) i;
        asked = (sym h.asked_stays) i;
        next = (sym h.next_stays) i;
        budget = (sym h.budget_stays) i;
        stop = (sym h.stops) i;
      }) in
      subst (IsSoFar steps before.entries r plan) is (record {
        number_is = so.number_is;
        low = so.low;
        budget_is = so.budget_is;
        in_budget = so.in_budget;
        requests_stand = so.requests_stand;
        next_is = so.next_is;
        steps_are = so.steps_are;
        requests_are = so.requests_are;
        follows_plan = so.follows_plan;
        calls_are = so.calls_are;
        few_calls = so.few_calls;
        has_cause = cause h.hart h.room h.stop after h.hart_is h.holds;
      })

-- Turns that are taken first, of a standing.
use Rattle.std.proofs.Common.{◌≡◌, ◌∙◌, ℕ, ◌+◌, ◌<◌, refl, sym, ap, subst, inl, inr, Bool, true, false, List, [], ◌∷◌, ◌++◌, length, Option, Some, None}
use Rattle.std.specs.List.{slice_get}
use Rattle.std.specs.Option.{option_map}
use Rattle.std.proofs.lemmas.Option.{same_Some, slice_get-map}
use Rattle.rv_image_types.specs.declared.images.ImageParts.{ImageParts}
use Rattle.mp_types.specs.declared.requests.Request.{Request}
use Rattle.cl_state.specs.declared.asking.Answer.{Answer}
use Rattle.cl_state.specs.declared.asking.Ask.{Ask}
use Rattle.cl_state.specs.declared.state.RankState.{RankState}
use Rattle.cl_state.specs.declared.asking.Doing.{Doing}
use Rattle.cl_state.specs.Asked.{asked, doing, part_of}
use Rattle.cl_state.specs.Rank.{Rank}
use Rattle.cl_state.specs.Room.{rank_of}
use Rattle.cl_state_laws.specs.Vain.{waits_on}
use Rattle.cl_trace.specs.declared.events.Kind.{Kind}
use Rattle.cl_machine.specs.declared.steps.Step.{Step}
use Rattle.cl_machine.specs.Cluster.{CaseOf, Cluster, IsStep, only_told}
use Rattle.cl_order_laws.specs.Closed.{Node, one_more}
use Rattle.cl_order_laws.specs.Laws.{IsReached}
use Rattle.cl_order_laws.specs.SureAsks.{IsBusy}
use Rattle.cl_order_laws.proofs.Likeness.{alike_itself, likeness_law as same_law, sound_of}
use Rattle.cl_reduction_laws.specs.Below.{AreAlike, AskWithin}
use Rattle.cl_reduction_laws.proofs.Below.{likeness_law}
use Rattle.cl_moves.specs.Moves.{AreTurnsOf, IsTurnOf}
use Rattle.cl_moves.specs.Standing.{StandsAt, Takes, Took, by_order, node_of}
use Rattle.cl_moves.specs.declared.standing.Standing.{Standing}
use Rattle.cl_moves.proofs.Resting.{own_at}
use Rattle.cl_moves.proofs.Surely.{reached_by}
use Rattle.cl_rest_laws.specs.Rests.{rests}
use Rattle.cl_reduction_laws.specs.Clusters.{Search, awake_cluster}
use Rattle.cl_reduction_laws.specs.Complete.{PollWithin}
use Rattle.cl_reduction_laws.specs.Patterns.{IsAllowed, MayMeet, pattern_of, pattern_of_ask}
use Rattle.cl_reduction_laws.specs.Settled.{AllWithin}
use Rattle.cl_contests.specs.declared.patterns.AskedBy.{AskedBy}
use Rattle.cl_contests.specs.Going.{IsFirstHart, IsSettledThere, LeadsOn, SettlesFrom}
use Rattle.cl_contests.specs.Kept.{patterns_of, polls_of, search_of, wild_of}
use Rattle.cl_contests.specs.Turns.{AsksWithin, GoesAlone, GoesInVain, GoesWithin, IsBusyKind, IsBusyTurn, IsFirstCall}
use Rattle.cl_contests.specs.Turns.{IsFirstNext, IsFirstTurn, IsMaking, IsMeetingCall, IsMeetingNext, IsMeetingTurn}
use Rattle.cl_contests.specs.Turns.{IsUncontested, IsVainCall, IsVainNext, IsVainTurn, MayGoFirst, TellsWithin}
use Rattle.cl_contests.proofs.Settling.{alike_in_vain, alike_missed, settled_there, settles_alone, settles_met, settles_uncontested, settles_ready}

-- ---- one after another

module _ (order : List ℕ) (P : Cluster → Cluster → Type 0) where
  pub leads_stay : (old : Standing) → ((c : Cluster) → IsReached c → P c c) → LeadsOn order old old P
  leads_stay old same = λ image start here stands way reached. (
    here,
    stands,
    way,
    same here.cluster (reached_by (by_order order) start here old.steps.items reached way),
  )

  pub leads_more : (old mid new : Standing) → ((a b c : Cluster) → P a b → P b c → P a c) → LeadsOn order old mid P
      → LeadsOn order mid new P
      → LeadsOn order old new P
  leads_more old mid new on first second = λ image start here stands way reached.
      let v = first image start here stands way reached in
      let w = second image start v.0 v.1 v.2 reached in
      (w.0, w.1, w.2, on here.cluster (v.0).cluster (w.0).cluster v.3 w.3)

  -- by a turn of a rank's first hart
  pub leads_by : (old new : Standing) (e : Step) (own : RankState) → IsFirstHart order → Took old e new
      → slice_get old.cluster.ranks.items e.rank ≡ Some own → e.hart ≡ 0
      → ((image : ImageParts) (here : Node) (next : Cluster) → StandsAt image old here
      → slice_get here.cluster.ranks e.rank ≡ Some (rank_of own) → IsReached here.cluster → IsStep here.cluster e next
      → P here.cluster next)
      → LeadsOn order old new P
  leads_by old new e own first took there hart each = λ image start here stands way reached.
      let led = took image (by_order order) start here stands way (hart ∙ sym (first (here.had e.rank))) in (
        node_of led.0 (one_more here.had e.rank),
        led.2,
        led.3,
        each image here led.0 stands (own_at image old.cluster here.cluster stands.stands e.rank own there)
            (reached_by (by_order order) start here old.steps.items reached way) led.1,
      )

-- a rank that may go first does so in the search
pub goes_anyway : (may_wait : Bool) (old : Standing) (r : ℕ) → MayGoFirst may_wait old r
    → (image : ImageParts) (here : Node) → StandsAt image old here → may_wait ≡ true → rests here.cluster r 0 ≡ false
goes_anyway may_wait old r anyway image here stands waits = sym (anyway waits image here stands)

-- ---- turns that need only their rank

busy_of : (ask : Ask) (kind : Kind) → IsBusyKind ask kind → IsBusy ask
busy_of Ask.Plain kind is = tt
busy_of Ask.Local kind is = tt
busy_of Ask.Idle kind is = absurd is
busy_of Ask.Held kind is = absurd is
busy_of (Ask.Hub q) kind is = absurd is
busy_of (Ask.Ready link part bytes) kind is = absurd is
busy_of (Ask.Look link part) kind is = absurd is
busy_of (Ask.Freed link part) kind is = absurd is

module _ (c : Cluster) (e : Step) (x : Rank) (stamp : e.stamp ≡ x.clock + 1) where
  abbrev then : Cluster
  then = only_told c e x Answer.Alone

  case_is : (ask : Ask) (kind : Kind) → asked x e.hart ≡ ask → IsBusyKind ask kind → CaseOf c e x kind then
  case_is Ask.Plain kind asks is = subst (λ k. CaseOf c e x k then) (sym is) (asks, stamp, refl)
  case_is Ask.Local kind asks is = subst (λ k. CaseOf c e x k then) (sym is) (asks, stamp, refl)
  case_is Ask.Idle kind asks is = absurd is
  case_is Ask.Held kind asks is = absurd is
  case_is (Ask.Hub q) kind asks is = absurd is
  case_is (Ask.Ready link part bytes) kind asks is = absurd is
  case_is (Ask.Look link part) kind asks is = absurd is
  case_is (Ask.Freed link part) kind asks is = absurd is

-- it is a step of the machine
busy_step : (search : Search) (old : Standing) (e : Step) (turn : IsBusyTurn search old e) (c : Cluster)
    → slice_get c.ranks e.rank ≡ Some (rank_of turn.own)
    → IsStep c e (only_told c e (rank_of turn.own) Answer.Alone)
busy_step search old e turn c there = (
  rank_of turn.own,
  there,
  subst (λ h. h < length turn.own.harts.items) (sym turn.hart_is) turn.inside,
  turn.low,
  case_is c e (rank_of turn.own) turn.stamp_is (asked (rank_of turn.own) e.hart) e.kind refl
      (subst (λ h. IsBusyKind (asked (rank_of turn.own) h) e.kind) (sym turn.hart_is) turn.busy),
)

pub alone_taken : (may_wait : Bool) (kept : List AskedBy) (old new : Standing) (e : Step)
    → IsBusyTurn (search_of may_wait kept) old e → (b : Bool) → Takes old e new b → GoesAlone (search_of may_wait kept) old new
alone_taken may_wait kept old new e turn true took = λ order first.
    leads_by order (SettlesFrom (search_of may_wait kept)) old new e turn.own first took turn.there turn.hart_is
    (λ image here next stands there reached step.
    settles_alone (search_of may_wait kept) here.cluster next e (rank_of turn.own) there turn.hart_is step
    (goes_anyway may_wait old e.rank turn.anyway image here stands) (busy_of (asked (rank_of turn.own) 0) e.kind turn.busy)
    turn.polls)
alone_taken may_wait kept old new e turn false none = λ order first image start here stands way reached.
    absurd (none image here _ stands
    (busy_step (search_of may_wait kept) old e turn here.cluster (own_at image old.cluster here.cluster stands.stands e.rank turn.own turn.there)))

pub alone_stays : (search : Search) (old : Standing) → GoesAlone search old old
alone_stays search old = λ order first.
    leads_stay order (SettlesFrom search) old (λ c reached node settled. settled)

pub alone_more : (search : Search) (old mid new : Standing) → GoesAlone search old mid → GoesAlone search mid new
    → GoesAlone search old new
alone_more search old mid new one two = λ order first.
    leads_more order (SettlesFrom search) old mid new (λ a b c f g node settled. f node (g node settled))
    (one order first) (two order first)

-- ---- what is told of a turn

at_last : (rest : List Step) (turn : Step) → slice_get (rest ++ turn ∷ []) (length rest) ≡ Some turn
at_last [] turn = refl
at_last (x ∷ rest) turn = at_last rest turn

-- the last of the turns that were told
pub of_popped : (rank : ℕ) (turns rest : List Step) (turn : Step) → AreTurnsOf rank 0 turns → turns ≡ rest ++ turn ∷ []
    → IsTurnOf rank 0 turn
of_popped rank turns rest turn own is =
    own (length rest) turn (subst (λ xs. slice_get xs (length rest) ≡ Some turn) (sym is) (at_last rest turn))

pub told_first : (may_wait : Bool) (kept : List AskedBy) (standing : Standing) (rank : ℕ) (own : RankState) (request : Request)
    → slice_get standing.cluster.ranks.items rank ≡ Some own → asked (rank_of own) 0 ≡ Ask.Hub request
    → MayGoFirst may_wait standing rank
    → (o : Option Step) → IsFirstCall (search_of may_wait kept) rank request o
    → IsFirstNext (search_of may_wait kept) standing o
told_first may_wait kept standing rank own request there asks anyway None call = tt
told_first may_wait kept standing rank own request there asks anyway (Some e) call = record {
  own = own;
  there = subst (λ r. slice_get standing.cluster.ranks.items r ≡ Some own) (sym call.0) there;
  hart_is = call.1;
  request = request;
  asks = asks;
  first = elim call.2 [
    | inl ready ↦ inl ready
    | inr may ↦ inr (subst (λ r. IsUncontested (search_of may_wait kept) r request) (sym call.0) may)
  ];
  anyway = subst (MayGoFirst may_wait standing) (sym call.0) anyway;
}

pub told_vain : (standing : Standing) (rank : ℕ) (own : RankState) → slice_get standing.cluster.ranks.items rank ≡ Some own
    → waits_on (doing own.site (part_of (rank_of own) 0)) ≡ true → (o : Option Step) → IsVainCall rank o
    → IsVainNext standing o
told_vain standing rank own there on None call = tt
told_vain standing rank own there on (Some e) call = record {
  own = own;
  there = subst (λ r. slice_get standing.cluster.ranks.items r ≡ Some own) (sym call.0) there;
  hart_is = call.1;
  on = on;
  kind_is = call.2;
}

-- ---- what ranks ask

pub asks_of : (may_wait : Bool) (kept : List AskedBy) (r : ℕ) (own : RankState) (waits : Bool) (d : Doing) (ask : Ask)
    → waits ≡ waits_on d
    → d ≡ doing own.site (part_of (rank_of own) 0) → ask ≡ asked (rank_of own) 0
    → IsAllowed (patterns_of kept) r (pattern_of_ask waits ask) → AskWithin (wild_of kept) r ask
    → PollWithin (polls_of kept) r (rank_of own) 0
    → AsksWithin (search_of may_wait kept) r own
asks_of may_wait kept r own waits d ask waits_is spelled asks allowed within polls = (
  subst (λ a. IsAllowed (patterns_of kept) r (pattern_of_ask (waits_on (doing own.site (part_of (rank_of own) 0))) a)) asks
      (subst (λ w. IsAllowed (patterns_of kept) r (pattern_of_ask w ask)) (waits_is ∙ ap waits_on spelled) allowed),
  subst (AskWithin (wild_of kept) r) asks within,
  polls,
)

module _ (may_wait : Bool) (kept : List AskedBy) (standing : Standing) where
  abbrev search : Search
  search = search_of may_wait kept

  abbrev items : List RankState
  items = standing.cluster.ranks.items

  pub tells_within : ((r : ℕ) (own : RankState) → slice_get items r ≡ Some own → AsksWithin search r own)
      → (image : ImageParts) (here : Node) → StandsAt image standing here → AllWithin search here.cluster
  tells_within each image here stands r x there = go (slice_get items r) refl mapped
    where
      mapped : option_map rank_of (slice_get items r) ≡ Some x
      mapped =
          sym (slice_get-map rank_of items r)
          ∙ (sym (ap (λ (rs : List Rank). slice_get rs r) stands.stands.ranks_are) ∙ there)

      go : (o : Option RankState) → slice_get items r ≡ o → option_map rank_of o ≡ Some x
          → IsAllowed search.patterns r (pattern_of x 0) × AskWithin search.wild r (asked x 0)
          × PollWithin search.polls_of_complete r x 0
      go None is same = absurd (cc)
      go (Some own) is same =
          subst (λ z. IsAllowed search.patterns r (pattern_of z 0) × AskWithin search.wild r (asked z 0)
          × PollWithin search.polls_of_complete r z 0)
          (same_Some (rank_of own) x same) (each r own is)

-- ---- turns that nobody contests

pub within_stays : (may_wait : Bool) (kept : List AskedBy) (old : Standing) → GoesWithin (search_of may_wait kept) old old true
within_stays may_wait kept old = λ all order first.
    leads_stay order (SettlesFrom (search_of may_wait kept)) old (λ c reached node settled. settled)

pub within_more : (may_wait : Bool) (kept : List AskedBy) (old mid new : Standing)
    → GoesWithin (search_of may_wait kept) old mid true
    → GoesWithin (search_of may_wait kept) mid new true
    → GoesWithin (search_of may_wait kept) old new true
within_more may_wait kept old mid new one two = λ all order first.
    leads_more order (SettlesFrom (search_of may_wait kept)) old mid new (λ a b c f g node settled. f node (g node settled))
    (one refl order first) (two refl order first)

pub within_alone : (may_wait : Bool) (kept : List AskedBy) (old new : Standing) → GoesAlone (search_of may_wait kept) old new
    → GoesWithin (search_of may_wait kept) old new true
within_alone may_wait kept old new one = λ all order first. one order first

pub first_taken : (may_wait : Bool) (kept : List AskedBy) (old new : Standing) (e : Step)
    → TellsWithin (search_of may_wait kept) old true
    → IsFirstTurn (search_of may_wait kept) old e → Took old e new
    → GoesWithin (search_of may_wait kept) old new true
first_taken may_wait kept old new e within turn took = λ all order first.
    leads_by order (SettlesFrom (search_of may_wait kept)) old new e turn.own first took turn.there turn.hart_is
    (λ image here next stands there reached step.
    let asks = within refl image here stands in
    let anyway = goes_anyway may_wait old e.rank turn.anyway image here stands in
    elim turn.first [
      | inl ready ↦
          settles_ready (search_of may_wait kept) here.cluster next e (rank_of turn.own) there turn.hart_is step anyway asks
          turn.request
          turn.asks ready
      | inr may ↦
          settles_uncontested (search_of may_wait kept) here.cluster next e (rank_of turn.own) there turn.hart_is step anyway
          asks turn.request
          turn.asks may
    ])

pub met_taken : (may_wait : Bool) (kept : List AskedBy) (old new : Standing) (e : Step)
    → TellsWithin (search_of may_wait kept) old true
    → IsMeetingTurn (search_of may_wait kept) old e → Took old e new
    → GoesWithin (search_of may_wait kept) old new true
met_taken may_wait kept old new e within turn took = λ all order first.
    leads_by order (SettlesFrom (search_of may_wait kept)) old new e turn.own first took turn.there turn.hart_is
    (λ image here next stands there reached step.
    settles_met (search_of may_wait kept) here.cluster next e (rank_of turn.own) there turn.hart_is step
    (goes_anyway may_wait old e.rank turn.anyway image here stands) (within refl image here stands) turn.fills
    (turn.meets).waits (turn.meets).pass)

pub told_met : (may_wait : Bool) (kept : List AskedBy) (standing : Standing) (rank : ℕ) (own : RankState) (waits : Bool)
    (d : Doing) (ask : Ask)
    → slice_get standing.cluster.ranks.items rank ≡ Some own → waits ≡ waits_on d
    → d ≡ doing own.site (part_of (rank_of own) 0) → ask ≡ asked (rank_of own) 0
    → MayGoFirst may_wait standing rank
    → (o : Option Step) → IsMeetingCall (search_of may_wait kept) rank waits ask o
    → IsMeetingNext (search_of may_wait kept) standing o
told_met may_wait kept standing rank own waits d ask there anew spelled asks anyway None call = tt
told_met may_wait kept standing rank own waits d ask there anew spelled asks anyway (Some e) call = record {
  own = own;
  there = subst (λ r. slice_get standing.cluster.ranks.items r ≡ Some own) (sym call.0) there;
  hart_is = call.1;
  fills = call.2;
  meets = record {
    waits = elim call.3 [
      | inl making ↦ inl (subst IsMaking asks making)
      | inr on ↦ inr (ap waits_on (sym spelled) ∙ sym anew ∙ on)
    ];
    pass = λ s p apart allowed.
        subst (λ a. MayMeet a p) asks (call.4 s p (λ same. apart (same ∙ sym call.0)) allowed);
  };
  anyway = subst (MayGoFirst may_wait standing) (sym call.0) anyway;
}

-- ---- polls of what isn't there

abbrev pub AreAwake : List AskedBy → Cluster → Cluster → Type 0
AreAwake kept here there = AreAlike (wild_of kept) (awake_cluster here) (awake_cluster there)

pub vain_stays : (old : Standing) → GoesInVain old old true
vain_stays old = λ all order kept first.
    leads_stay order (AreAwake kept) old
    (λ c reached. likeness_law.same (wild_of kept) (awake_cluster c) (awake_cluster c)
    (alike_itself (awake_cluster c) (sound_of c (same_law.itself c reached))))

pub vain_more : (old mid new : Standing) → GoesInVain old mid true → GoesInVain mid new true → GoesInVain old new true
vain_more old mid new one two = λ all order kept first.
    leads_more order (AreAwake kept) old mid new
    (λ a b c f g. likeness_law.on (wild_of kept) (awake_cluster a) (awake_cluster b) (awake_cluster c) f g)
    (one refl order kept first) (two refl order kept first)

pub vain_taken : (old new : Standing) (e : Step) → IsVainTurn old e → Took old e new → GoesInVain old new true
vain_taken old new e turn took = λ all order kept first.
    leads_by order (AreAwake kept) old new e turn.own first took turn.there turn.hart_is
    (λ image here next stands there reached step.
    elim turn.kind_is [
      | inl none ↦
          alike_in_vain (search_of false kept) here.cluster next e (rank_of turn.own) there turn.hart_is step
          (same_law.itself here.cluster reached) turn.on none
      | inr missed ↦
          alike_missed (search_of false kept) here.cluster next e (rank_of turn.own) there turn.hart_is step
          (same_law.itself here.cluster reached) turn.on missed
    ])

-- by whether it was a step
pub vain_polled : (old new : Standing) (e : Step) → IsVainTurn old e → (b : Bool) → Takes old e new b → GoesInVain old new b
vain_polled old new e turn true took = vain_taken old new e turn took
vain_polled old new e turn false none = λ all. absurd (cc)

-- ---- all of it

pub went_first : (may_wait : Bool) (kept : List AskedBy) (old mid new : Standing)
    → GoesWithin (search_of may_wait kept) old mid true
    → TellsWithin (search_of may_wait kept) mid true → GoesInVain mid new true
    → (order : List ℕ) → IsFirstHart order → LeadsOn order old new (IsSettledThere (search_of may_wait kept))
went_first may_wait kept old mid new goes within polled order first = λ image start here stands way reached.
    let v = goes refl order first image start here stands way reached in
    let w = polled refl order kept first image start v.0 v.1 v.2 reached in (
      w.0,
      w.1,
      w.2,
      λ node alike. v.3 node
          (settled_there (search_of may_wait kept) (v.0).cluster (w.0).cluster (within refl image v.0 v.1) w.3 node alike),
    )

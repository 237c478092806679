-- A rank is sure whose turn needs only itself, and isn't in vain.
use Rattle.std.proofs.Common.{◌≡◌, ℕ, ◌+◌, ◌<◌, ◌≤◌, inl, inr, List, [], ◌∷◌, length, Some, refl, sym, ap, ◌∙◌, subst, arith}
use Rattle.std.specs.Prelude.{◌≢◌, nat_lt}
use Rattle.std.specs.List.{slice_get}
use Rattle.std.proofs.lemmas.Bool.{cases_Bool, ltb-false, ltb-true}
use Rattle.std.proofs.lemmas.List.{get_or_past}
use Rattle.std.proofs.lemmas.Option.{same_Some}
use Rattle.rv_hart.specs.State.{State}
use Rattle.mp_wait_laws.proofs.Sets.{get-set_other}
use Rattle.cl_state.specs.declared.asking.Answer.{Answer}
use Rattle.cl_state.specs.declared.asking.Ask.{Ask}
use Rattle.cl_state.specs.Asked.{asked, no_hart}
use Rattle.cl_state.specs.Rank.{Rank}
use Rattle.cl_state_laws.specs.Vain.{IsStopped, mode_of}
use Rattle.cl_state_laws.proofs.Vain.{vain_law as rank_vain}
use Rattle.cl_trace.specs.declared.events.Kind.{Kind}
use Rattle.cl_machine.specs.declared.steps.Step.{Step}
use Rattle.cl_machine.specs.Cluster.{CaseOf, Cluster, only_told}
use Rattle.cl_order_laws.specs.Closed.{IsEnd, IsInVain, Node, Plans, one_more}
use Rattle.cl_order_laws.specs.Laws.{IsAlone}
use Rattle.cl_order_laws.specs.Sure.{AreOthers, Goes, GoesOn, IsFirst, IsSure}
use Rattle.cl_order_laws.specs.SureAsks.{IsBusy, IsSureAsk}
use Rattle.cl_order_laws.specs.SureTurns.{SureAloneLaw}
use Rattle.cl_order_laws.specs.Turns.{IsTurn}
use Rattle.cl_order_laws.proofs.Commuting.{moved, second_alone}
use Rattle.cl_order_laws.proofs.Covered.{had_other, node_of}
use Rattle.cl_order_laws.proofs.Likeness.{AreSound, alike_itself, sound_case, sound_of}
use Rattle.cl_order_laws.proofs.Turns.{turns_law}
use Rattle.cl_order_laws.proofs.Walks.{posts}

-- ---- a hart that asks for something is there

abbrev pub IsLive : Ask → Type 0
IsLive Ask.Idle = ⊥
IsLive _ = Unit {0}

pub not_idle : (rank : Rank) (hart : ℕ) → IsLive (asked rank hart) → IsStopped (mode_of rank hart) → ⊥
not_idle rank hart live stopped = subst IsLive ((rank_vain.stopped) rank hart 0 Answer.Alone stopped).0 live

pub has_hart : (rank : Rank) (hart : ℕ) → IsLive (asked rank hart) → hart < length rank.harts
has_hart rank hart live = elim (cases_Bool (nat_lt hart (length rank.harts))) [
  | inl below ↦ ltb-true hart (length rank.harts) below
  | inr past ↦
      let none = get_or_past rank.harts hart no_hart (ltb-false hart (length rank.harts) past) in
      absurd (not_idle rank hart live (subst (λ (x : State). IsStopped x.mode) (sym none) tt))
]

busy_live : (q : Ask) → IsBusy q → IsLive q
busy_live Ask.Plain is = tt
busy_live Ask.Local is = tt
busy_live _ is = absurd is

busy_sure : (cluster : Cluster) (r : ℕ) (q : Ask) → IsBusy q → IsSureAsk cluster r q
busy_sure cluster r Ask.Plain is = tt
busy_sure cluster r Ask.Local is = tt
busy_sure cluster r _ is = absurd is

-- ---- the rank stands, whatever turns others take

module _ (plans : Plans) (r : ℕ) (rank : Rank) where
  record Stands (here : Node) : Type 0 where
    stands : slice_get here.cluster.ranks r ≡ Some rank
    busy : IsBusy (asked rank (plans r (here.had r)))
    sound : AreSound here.cluster.boxes

  stands_on : (s : ℕ) (here mid : Node) → s ≢ r → Goes plans s here mid → Stands here → Stands mid
  stands_on s here mid apart goes at =
      let y = goes.leads in
      let f = goes.step in
      let m = moved here.cluster mid.cluster f y.0 f.kind refl y.3 in
      record {
        stands = ap (λ xs. slice_get xs r) m.ranks
            ∙ get-set_other here.cluster.ranks f.rank r m.then (λ same. apart (sym goes.rank ∙ same)) ∙ at.stands;
        busy = subst (λ n. IsBusy (asked rank (plans r n)))
            (sym (ap (λ had. had r) goes.had ∙ had_other here.had s r apart)) at.busy;
        sound = sound_case here.cluster mid.cluster f y.0 f.kind y.3 at.sound;
      }

  stands_still : (ss : List ℕ) (here there : Node) → AreOthers r ss → GoesOn plans ss here there → Stands here
      → Stands there
  stands_still [] here there others walk at = subst Stands (sym walk) at
  stands_still (s ∷ ss) here there others walk at =
      stands_still ss walk.0 there others.1 walk.2 (stands_on s here walk.0 others.0 walk.1 at)

  -- ---- it can go on

  record Next (here : Node) : Type 0 where
    new : Node
    goes : Goes plans r here new
    same : posts new.cluster ≡ posts here.cluster

  -- the turn of this kind, which needs only the rank
  abbrev turn_as : Node → Kind → Step
  turn_as here kind = record { rank = r; hart = plans r (here.had r); stamp = rank.clock + 1; kind = kind }

  next_as : (here : Node) → Stands here → (kind : Kind) → IsLive (asked rank (plans r (here.had r)))
      → CaseOf here.cluster (turn_as here kind) rank kind
      (only_told here.cluster (turn_as here kind) rank Answer.Alone)
      → Next here
  next_as here at kind live case = record {
    new = node_of (only_told here.cluster (turn_as here kind) rank Answer.Alone) (one_more here.had r);
    goes = record {
      step = turn_as here kind;
      rank = refl;
      hart = refl;
      leads = (rank, at.stands, has_hart rank (plans r (here.had r)) live, case);
      had = refl;
    };
    same = refl;
  }

  next_by : (here : Node) → Stands here → (q : Ask) → asked rank (plans r (here.had r)) ≡ q → IsBusy q → Next here
  next_by here at Ask.Plain asks is = next_as here at Kind.Plain (subst IsLive (sym asks) tt) (asks, refl, refl)
  next_by here at Ask.Local asks is = next_as here at Kind.Local (subst IsLive (sym asks) tt) (asks, refl, refl)
  next_by here at _ asks is = absurd is

  -- ---- that is no end

  not_vain : (here : Node) (q : Ask) → IsBusy q → IsInVain here.cluster r q → ⊥
  not_vain here Ask.Plain is vain = vain
  not_vain here Ask.Local is vain = vain
  not_vain here _ is vain = is

  no_end : (here : Node) → Stands here → IsEnd plans here.cluster → ⊥
  no_end here at end = elim (end r (here.had r) rank at.stands) [
    | inl stopped ↦ not_idle rank (plans r (here.had r)) (busy_live _ at.busy) stopped
    | inr waits ↦ not_vain here (asked rank (plans r (here.had r))) at.busy waits.1
  ]

  -- ---- and its turn could have been before that of another

  alone_too : (old new : Cluster) (e : Step) (q : Ask) → IsBusy q → IsTurn old e rank q new → IsAlone e.kind
  alone_too old new e Ask.Plain is turn = subst IsAlone (sym turn.0) tt
  alone_too old new e Ask.Local is turn = subst IsAlone (sym turn.0) tt
  alone_too old new e _ is turn = absurd is

  could_be_first : (s : ℕ) (here mid new : Node) → s ≢ r → Stands here → Goes plans s here mid
      → Goes plans r mid new → IsFirst plans r s here new
  could_be_first s here mid new apart at goes last =
      let f = goes.step in
      let e = last.step in
      let there = stands_on s here mid apart goes at in
      let stands : slice_get mid.cluster.ranks e.rank ≡ Some rank =
      ap (slice_get mid.cluster.ranks) last.rank ∙ there.stands in
      let turn = turns_law mid.cluster new.cluster e rank stands last.leads in
      let alone = alone_too mid.cluster new.cluster e (asked rank e.hart)
      (subst (λ h. IsBusy (asked rank h)) (sym last.hart) there.busy) turn in
      let c = second_alone here.cluster mid.cluster new.cluster f e
      (λ same. apart (sym goes.rank ∙ same ∙ last.rank)) alone goes.leads last.leads in
      let had : mid.had r ≡ here.had r = ap (λ had. had r) goes.had ∙ had_other here.had s r apart in
      let y = last.leads in
      record {
        mid = node_of c.0 (one_more here.had r);
        last = node_of new.cluster (one_more (one_more here.had r) s);
        first = record {
          step = e;
          rank = last.rank;
          hart = last.hart ∙ ap (plans r) had;
          leads = c.1;
          had = refl;
        };
        then = record {
          step = f;
          rank = goes.rank;
          hart = goes.hart ∙ ap (plans s) (sym (had_other here.had r s (λ same. apart (sym same))));
          leads = c.2;
          had = refl;
        };
        alike = alike_itself new.cluster (sound_case mid.cluster new.cluster e y.0 e.kind y.3 there.sound);
      }

  sure : (most : ℕ) (here : Node) → Stands here → IsSure plans most here r
  sure most here at = record {
    goes = λ ss there others walk within.
        let now = stands_still ss here there others walk at in
        let n = next_by there now (asked rank (plans r (there.had r))) refl now.busy in
        let same = n.same in
        let few : posts there.cluster ≤ most = within in
        (n.new, n.goes, omega (arith, same, few));
    asks = λ ss there others walk within x is.
        let now = stands_still ss here there others walk at in
        busy_sure there.cluster r (asked x (plans r (there.had r)))
        (subst (λ y. IsBusy (asked y (plans r (there.had r)))) (same_Some rank x (sym now.stands ∙ is)) now.busy);
    no_end = λ ss there others walk within. no_end there (stands_still ss here there others walk at);
    before = λ ss there mid new s others walk apart goes last within.
        could_be_first s there mid new apart (stands_still ss here there others walk at) goes last;
  }

pub sure_alone_law : SureAloneLaw
sure_alone_law plans most here r rank alike stands busy =
    sure plans r rank most here (record {
      stands = stands;
      busy = busy;
      sound = sound_of here.cluster alike;
    })

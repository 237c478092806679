-- Where a turn that goes first leads, what settles there settles before it.
use Rattle.std.proofs.Common.{◌≡◌, ◌∙◌, ℕ, zero, suc, ◌+◌, ◌⊎◌, refl, sym, ap, subst, inl, inr, true, false, Some}
use Rattle.std.specs.Prelude.{◌<◌, ◌≢◌, Bool, cond, max, nat_lt}
use Rattle.std.specs.List.{slice_get}
use Rattle.std.proofs.lemmas.Bool.{cases_eq, ltb-true}
use Rattle.std.proofs.lemmas.Option.{same_Some}
use Rattle.mp_types.specs.declared.replies.Reply.{Reply}
use Rattle.mp_types.specs.declared.replies.Reply.TheVariants.{NotYet}
use Rattle.mp_types.specs.declared.requests.Request.{Request}
use Rattle.mp_hub.specs.Hub.{outcome}
use Rattle.cl_state.specs.declared.asking.Ask.{Ask}
use Rattle.cl_state.specs.Asked.{asked, doing, part_of}
use Rattle.cl_state.specs.Rank.{Rank}
use Rattle.cl_state_laws.specs.Vain.{waits_on}
use Rattle.cl_trace.specs.declared.events.Kind.{Kind}
use Rattle.cl_machine.specs.declared.steps.Step.{Step}
use Rattle.cl_machine.specs.Boxes.{Box}
use Rattle.cl_machine.specs.Cluster.{CaseOf, Cluster, IsStep}
use Rattle.cl_machine.specs.Journal.{reply_in}
use Rattle.cl_machine.proofs.Tables.{step_once}
use Rattle.cl_order_laws.specs.Alike.{Leads, hub_of}
use Rattle.cl_order_laws.specs.Laws.{AreAlike as AreTheSame}
use Rattle.cl_order_laws.specs.Orders.{is_miss}
use Rattle.cl_order_laws.specs.SureAsks.{IsBusy, IsReady}
use Rattle.cl_order_laws.proofs.Likeness.{sound_of}
use Rattle.cl_order_laws.proofs.Steps.{below_law, step_leads}
use Rattle.cl_order_laws.proofs.SureHub.{reply_is}
use Rattle.cl_reduction_laws.specs.Below.{AreAlike, AskWithin}
use Rattle.cl_reduction_laws.proofs.Below.{likeness_law}
use Rattle.cl_reduction_laws.specs.Below.{Turn}
use Rattle.cl_reduction_laws.proofs.Below.{call_of}
use Rattle.cl_moves.specs.Moves.{IsMove, IsNext, Sees}
use Rattle.cl_moves.specs.Sure.{IsReadyKind}
use Rattle.cl_moves.proofs.Asking.{move}
use Rattle.cl_reduction_laws.specs.Clusters.{CanGo, FindsBox, GoesAnyway, GoesFirst, IsStill, IsWithin, Search, alone}
use Rattle.cl_reduction_laws.specs.Clusters.{awake_cluster, collects, initialises, lone, meets, posts}
use Rattle.cl_reduction_laws.specs.Complete.{PollWithin}
use Rattle.cl_reduction_laws.specs.Patterns.{IsAllowed, MayMeet, Pattern, at_box, by_receiver, by_sender, pattern_of, pattern_of_ask, unlisted}
use Rattle.cl_reduction_laws.specs.Settled.{AllWithin, Settles}
use Rattle.cl_reduction_laws.proofs.Awake.{clusters_awake}
use Rattle.cl_reduction_laws.proofs.AtBoxes.{miss_leaves}
use Rattle.cl_reduction_laws.proofs.Clusters.{busy_only, can_only, missed_box, vain}
use Rattle.cl_reduction_laws.proofs.Exchanged.{kept_rank, no_miss}
use Rattle.cl_reduction_laws.proofs.Good.{IsOnly}
use Rattle.cl_reduction_laws.proofs.Machine.{same_alike}
use Rattle.cl_contests.specs.Going.{IsSettledThere, SettlesFrom}
use Rattle.cl_contests.specs.Turns.{IsFilling, IsMaking, IsUncontested, can_begin, can_post}

-- ---- the one turn of a hart that finds what it asks for

module _ (c : Cluster) (e f : Step) (x : Rank) (r : f.rank ≡ e.rank) (mine : is_miss e.kind ≡ false)
    (theirs : is_miss f.kind ≡ false) where
  abbrev AreSame : Type 0
  AreSame = (f.kind ≡ e.kind) × (f.stamp ≡ e.stamp)

  missed : (g : Step) → is_miss g.kind ≡ false → g.kind ≡ Kind.Miss → ⊥
  missed g found is = (let no = sym found ∙ ap is_miss is in absurd (cc))

  -- both meet what is in the box
  both_see : (link part : ℕ) (kind : Kind) → Sees c e x link part kind → Sees c f x link part kind → AreSame
  both_see link part kind m n = (
    n.0 ∙ sym m.0,
    n.3 ∙ ap (λ (b : Box). max x.clock b.stamp + 1) (same_Some n.1 m.1 (sym n.2 ∙ m.2)) ∙ sym m.3,
  )

  look : (link part : ℕ) (kind : Kind) → IsNext e x Kind.Miss ⊎ Sees c e x link part kind
      → IsNext f x Kind.Miss ⊎ Sees c f x link part kind
      → AreSame
  look link part kind (inr m) (inr n) = both_see link part kind m n
  look link part kind (inl m) n = absurd (missed e mine m.0)
  look link part kind (inr m) (inl n) = absurd (missed f theirs n.0)

  same_move : (a : Ask) → IsMove c e x a → IsMove c f x a → AreSame
  same_move Ask.Plain m n = (n.0 ∙ sym m.0, n.1 ∙ sym m.1)
  same_move Ask.Local m n = (n.0 ∙ sym m.0, n.1 ∙ sym m.1)
  same_move Ask.Idle m n = (n.0 ∙ sym m.0, n.1 ∙ sym m.1)
  same_move Ask.Held m n = (n.0 ∙ sym m.0, n.1 ∙ sym m.1)
  same_move (Ask.Hub q) m n =
      (n.0 ∙ ap (λ k. Kind.Hub (reply_in c.journal k q)) r ∙ sym m.0, n.1 ∙ sym m.1)
  same_move (Ask.Ready link part bytes) m n = (n.0 ∙ sym m.0, n.1 ∙ sym m.1)
  same_move (Ask.Look link part) m n = look link part Kind.Take m n
  same_move (Ask.Freed link part) m n = look link part Kind.Freed m n

-- wherever such a turn of that hart leads, it leads there
one_turn : (c next new : Cluster) (e f : Step) (x : Rank) → slice_get c.ranks e.rank ≡ Some x → is_miss e.kind ≡ false
    → is_miss f.kind ≡ false → IsStep c e next → f.rank ≡ e.rank → f.hart ≡ e.hart → Leads c f new
    → next ≡ new
one_turn c next new e f x there found also step r h leads =
    let first : step.0 ≡ x = same_Some step.0 x (sym step.1 ∙ there) in
    let second : leads.0 ≡ x = same_Some leads.0 x (sym leads.1 ∙ ap (slice_get c.ranks) r ∙ there) in
    let mine : IsMove c e x (asked x e.hart) =
    move c next e x e.kind refl (subst (λ z. CaseOf c e z e.kind next) first step.4) in
    let theirs : IsMove c f x (asked x e.hart) =
    subst (λ k. IsMove c f x (asked x k)) h (move c new f x f.kind refl (subst (λ z. CaseOf c f z f.kind new) second leads.3)) in
    let same = same_move c e f x r found also (asked x e.hart) mine theirs in
    let is : f ≡ e = λ i. record { rank = r i; hart = h i; stamp = same.1 i; kind = same.0 i } in
    step_once c e next new step (below_law c new e (subst (λ g. Leads c g new) is leads) step.3)

-- ---- a turn of a rank that goes first

settled_within : (search : Search) (Is : Cluster → Type 0) (n : ℕ) (c : Cluster) → Settles search Is n c → AllWithin search c
settled_within search Is zero c settles = settles.0
settled_within search Is (suc n) c settles = settles.0

module _ (search : Search) (c next : Cluster) (e : Step) (x : Rank) (there : slice_get c.ranks e.rank ≡ Some x)
    (hart : e.hart ≡ search.harts e.rank) (step : IsStep c e next) where
  turn : Turn e.rank (search.harts e.rank) c next
  turn = record { step = e; rank = refl; hart = hart; leads = step_leads c next e step }

  -- what settles there settles here
  pub settles_on : GoesAnyway search c e.rank → AllWithin search c → GoesFirst search c e.rank x → is_miss e.kind ≡ false
      → SettlesFrom search c next
  settles_on anyway within first found = λ node settled. (
    suc settled.0,
    (
      within,
      inr (
        e.rank,
        x,
        there,
        first,
        anyway,
        λ new goes.
            let g = goes.0 in
            let led = one_turn c next new e g.step x there found goes.1 step g.rank (g.hart ∙ sym hart) g.leads in
            subst (λ k. Settles search (λ z. z ≡ node) settled.0 k) led settled.1,
      ),
    ),
  )

  -- where there is one turn alone it finds what it asks for
  settles_only : GoesAnyway search c e.rank → AllWithin search c → GoesFirst search c e.rank x
      → IsOnly (asked x (search.harts e.rank))
      → SettlesFrom search c next
  unfolding turn
  settles_only anyway within first single =
      settles_on anyway within first (no_miss e.rank (search.harts e.rank) c next x there single turn)

  settles_call : GoesAnyway search c e.rank → AllWithin search c → GoesFirst search c e.rank x → (q : Request)
      → asked x (search.harts e.rank) ≡ Ask.Hub q
      → SettlesFrom search c next
  settles_call anyway within first q asks = settles_only anyway within first (subst IsOnly (sym asks) tt)

  -- a turn that needs only its rank: each other rank asks what it asked
  within_own : IsBusy (asked x (search.harts e.rank)) → PollWithin search.polls_of_complete e.rank x (search.harts e.rank)
      → IsWithin search c e.rank
  within_own busy polls z at =
      let its = go (asked x (search.harts e.rank)) busy in
      subst (λ y. IsAllowed search.patterns e.rank (pattern_of y (search.harts e.rank))
      × AskWithin search.wild e.rank (asked y (search.harts e.rank))
      × PollWithin search.polls_of_complete e.rank y (search.harts e.rank)) (same_Some x z (sym there ∙ at))
      (its.0, its.1, polls)
    where
      go : (a : Ask) → IsBusy a
          → IsAllowed search.patterns e.rank
          (pattern_of_ask (waits_on (doing x.site (part_of x (search.harts e.rank)))) a) × AskWithin search.wild e.rank a
      go Ask.Plain is = (tt, tt)
      go Ask.Local is = (tt, tt)
      go _ is = absurd is

  within_back : IsBusy (asked x (search.harts e.rank)) → PollWithin search.polls_of_complete e.rank x (search.harts e.rank)
      → AllWithin search next → AllWithin search c
  within_back busy polls within r = elim (cases_eq e.rank r) [
    | inl same ↦ subst (IsWithin search c) same (within_own busy polls)
    | inr apart ↦ λ z at.
        within r z (kept_rank e.rank (search.harts e.rank) r c next turn apart ∙ at)
  ]

  pub settles_alone : GoesAnyway search c e.rank → IsBusy (asked x (search.harts e.rank))
      → PollWithin search.polls_of_complete e.rank x (search.harts e.rank) → SettlesFrom search c next
  settles_alone anyway busy polls = λ node settled.
      settles_only anyway
      (within_back busy polls (settled_within search (λ z. z ≡ node) settled.0 next settled.1))
      (alone busy) (busy_only (asked x (search.harts e.rank)) busy) node settled

  -- a call, whose reply is in the turn
  reply_told : (q : Request) → asked x (search.harts e.rank) ≡ Ask.Hub q → (reply : Reply) → e.kind ≡ Kind.Hub reply
      → reply ≡ reply_in c.journal e.rank q
  reply_told q asks reply kind =
      let own : step.0 ≡ x = same_Some step.0 x (sym step.1 ∙ there) in
      let m : IsMove c e x (Ask.Hub q) =
      subst (IsMove c e x) (ap (asked x) hart ∙ asks)
      (move c next e x e.kind refl (subst (λ z. CaseOf c e z e.kind next) own step.4)) in
      same_reply reply (reply_in c.journal e.rank q) (sym kind ∙ m.0)
    where
      same_reply : (a b : Reply) → Kind.Hub a ≡ Kind.Hub b → a ≡ b
      same_reply a b is = cc

  ready_told : (q : Request) → asked x (search.harts e.rank) ≡ Ask.Hub q → (kind : Kind) → e.kind ≡ kind → IsReadyKind q kind
      → IsReady q (reply_in c.journal e.rank q)
  ready_told q asks (Kind.Hub reply) is ready = subst (IsReady q) (reply_told q asks reply is) ready
  ready_told q asks _ is ready = absurd ready

  pub settles_ready : GoesAnyway search c e.rank → AllWithin search c → (q : Request) → asked x (search.harts e.rank) ≡ Ask.Hub q
      → IsReadyKind q e.kind
      → SettlesFrom search c next
  settles_ready anyway within q asks ready =
      settles_call anyway within (collects q asks (ready_told q asks e.kind refl ready)) q asks

  pub settles_uncontested : GoesAnyway search c e.rank → AllWithin search c → (q : Request)
      → asked x (search.harts e.rank) ≡ Ask.Hub q
      → IsUncontested search e.rank q
      → SettlesFrom search c next
  settles_uncontested anyway within q asks (can_post post pass) = settles_call anyway within (posts q asks post pass) q asks
  settles_uncontested anyway within q asks (can_begin is pass) = settles_call anyway within (initialises q asks is pass) q asks

  pub settles_lone : GoesAnyway search c e.rank → AllWithin search c → CanGo (asked x (search.harts e.rank))
      → ((s : ℕ) (other : Rank) → s ≢ e.rank → slice_get c.ranks s ≡ Some other → IsStill c s other (search.harts s))
      → SettlesFrom search c next
  settles_lone anyway within can still =
      settles_only anyway within (lone can still) (can_only (asked x (search.harts e.rank)) can)

  -- ---- a turn at a box

  own_is : step.0 ≡ x
  own_is = same_Some step.0 x (sym step.1 ∙ there)

  asks_is : asked step.0 e.hart ≡ asked x (search.harts e.rank)
  asks_is = ap (λ z. asked z e.hart) own_is ∙ ap (asked x) hart

  abbrev ask : Ask
  ask = asked x (search.harts e.rank)

  abbrev waits : Bool
  waits = waits_on (doing x.site (part_of x (search.harts e.rank)))

  -- on a link with such a box
  low_part : AllWithin search c → (link part : ℕ) (p : Pattern) → IsAllowed search.patterns e.rank (at_box part p) → part < 16
  low_part within link part p is = go (nat_lt part 16) refl is
    where
      go : (b : Bool) → nat_lt part 16 ≡ b → IsAllowed search.patterns e.rank (cond b p unlisted) → part < 16
      go true is_low allowed = ltb-true part 16 is_low
      go false is_low allowed = absurd allowed

  allowed_as : AllWithin search c → (a : Ask) → ask ≡ a → IsAllowed search.patterns e.rank (pattern_of_ask waits a)
  allowed_as within a is =
      subst (λ u. IsAllowed search.patterns e.rank (pattern_of_ask waits u)) is (within e.rank x there).0

  -- the turn found its box, so the box is as it is asked for
  finds : AllWithin search c → (kind : Kind) → IsFilling kind → CaseOf c e step.0 kind next
      → IsMaking ask ⊎ (waits ≡ true)
      → FindsBox c waits ask
  finds within Kind.Ready fills k why =
      let is = sym asks_is ∙ k.4 in
      subst (FindsBox c waits) (sym is)
      (k.3, k.5, k.6, low_part within k.0 k.1 (by_sender k.0) (allowed_as within (Ask.Ready k.0 k.1 k.2) is))
  finds within Kind.Take fills k (inr on) =
      let is = sym asks_is ∙ k.4 in
      subst (FindsBox c waits) (sym is)
      (on, k.3, k.2, k.5, k.6, low_part within k.0 k.1 (by_receiver k.0) (allowed_as within (Ask.Look k.0 k.1) is))
  finds within Kind.Take fills k (inl making) = absurd (subst IsMaking (sym asks_is ∙ k.4) making)
  finds within Kind.Freed fills k (inr on) =
      let is = sym asks_is ∙ k.3 in
      subst (FindsBox c waits) (sym is)
      (on, k.2, k.4, k.5, low_part within k.0 k.1 (by_sender k.0) (allowed_as within (Ask.Freed k.0 k.1) is))
  finds within Kind.Freed fills k (inl making) = absurd (subst IsMaking (sym asks_is ∙ k.3) making)
  finds within _ fills k why = absurd fills

  not_missed : (kind : Kind) → IsFilling kind → is_miss kind ≡ false
  not_missed Kind.Ready fills = refl
  not_missed Kind.Take fills = refl
  not_missed Kind.Freed fills = refl
  not_missed _ fills = absurd fills

  pub settles_met : GoesAnyway search c e.rank → AllWithin search c → IsFilling e.kind → IsMaking ask ⊎ (waits ≡ true)
      → ((s : ℕ) (p : Pattern) → s ≢ e.rank → IsAllowed search.patterns s p → MayMeet ask p)
      → SettlesFrom search c next
  settles_met anyway within fills why pass =
      settles_on anyway within (meets (finds within e.kind fills step.4 why) pass) (not_missed e.kind fills)

  -- ---- a poll of what isn't there

  pub alike_missed : AreTheSame c c → waits ≡ true → e.kind ≡ Kind.Miss
      → AreAlike search.wild (awake_cluster c) (awake_cluster next)
  unfolding turn
  alike_missed itself on kind =
      let m = miss_leaves e.rank (search.harts e.rank) c next x there turn (ap is_miss kind) in
      same_alike search.wild c next (sound_of c itself)
      (missed_box search e.rank c next x e.stamp there on m.0 m.1)

  pub alike_in_vain : AreTheSame c c → waits_on (doing x.site (part_of x (search.harts e.rank))) ≡ true
      → e.kind ≡ Kind.Hub NotYet
      → AreAlike search.wild (awake_cluster c) (awake_cluster next)
  alike_in_vain itself on kind =
      same_alike search.wild c next (sound_of c itself)
      (vain search e.rank c next x called.0 there on asks
      (call_of e.rank (search.harts e.rank) c next x called.0 there asks turn) told_so)
    where
      own : step.0 ≡ x
      own = same_Some step.0 x (sym step.1 ∙ there)

      called : CaseOf c e x (Kind.Hub NotYet) next
      called = subst (λ k. CaseOf c e x k next) kind (subst (λ z. CaseOf c e z e.kind next) own step.4)

      asks : asked x (search.harts e.rank) ≡ Ask.Hub called.0
      asks = sym (ap (asked x) hart) ∙ called.1

      told_so : (outcome (hub_of c.journal) e.rank called.0).0 ≡ NotYet
      told_so = sym (reply_is c.journal e.rank called.0) ∙ sym called.2

-- ---- where all is done

pub settled_there : (search : Search) (here there : Cluster) → AllWithin search here
    → AreAlike search.wild (awake_cluster here) (awake_cluster there) → IsSettledThere search here there
settled_there search here there within alike = λ node same. (
  0,
  (
    within,
    (
      node,
      refl,
      likeness_law.on search.wild (awake_cluster here) (awake_cluster there) (awake_cluster node) alike
          (clusters_awake search.wild there node same),
    ),
  ),
)

-- Calls for what is there, taken at once.
use Rattle.std.specs.Prelude.{ℕ, suc, ◌+◌, ◌<◌, ◌^◌, ◌≡◌, max, List, [], ◌∷◌, ◌++◌, length, option_map, slice_get, Option, Some, None, Bool, true, false}
use Rattle.std.proofs.Common.{refl, sym, ap, ◌∙◌, subst, arith, inl, inr}
use Rattle.std.proofs.lemmas.List.{length-append}
use Rattle.std.proofs.lemmas.Option.{same_Some, slice_get-map}
use Rattle.rv_image_types.specs.declared.images.ImageParts.{ImageParts}
use Rattle.rv_image_types.specs.declared.images.Link.{Link}
use Rattle.mp_types.specs.declared.requests.Request.{Request}
use Rattle.mp_alike_laws.specs.Alike.{AlikeHubs}
use Rattle.mp_hub.specs.Hub.{Call, reply_of}
use Rattle.mp_hub.specs.Outcomes.{StandsFor}
use Rattle.cl_journal.specs.Journal.{calls_of}
use Rattle.cl_deeds.specs.Orders.{in_slot}
use Rattle.cl_state.specs.declared.asking.Ask.{Ask}
use Rattle.cl_state.specs.declared.state.RankState.{RankState}
use Rattle.cl_state.specs.Asked.{asked}
use Rattle.cl_state.specs.Rank.{Rank}
use Rattle.cl_state.specs.Room.{rank_of}
use Rattle.cl_trace.specs.declared.events.Kind.{Kind}
use Rattle.cl_machine.specs.Boxes.{Box}
use Rattle.cl_machine.specs.Cluster.{CaseOf, Cluster, IsRun, IsStep}
use Rattle.cl_machine.specs.Journal.{Journal, reply_in}
use Rattle.cl_machine.specs.declared.steps.Step.{Step}
use Rattle.cl_machine.proofs.Tables.{step_once}
use Rattle.cl_order_laws.specs.Alike.{AlikeBoxes, AlikeRanks, AreEach, Leads, hub_of}
use Rattle.cl_order_laws.specs.Closed.{IsCovered, Node, Plans, one_more}
use Rattle.cl_order_laws.specs.Laws.{AreAlike, IsReached}
use Rattle.cl_order_laws.specs.Sure.{Settles}
use Rattle.cl_order_laws.specs.Turns.{called}
use Rattle.cl_order_laws.proofs.Likeness.{likeness_law}
use Rattle.cl_order_laws.proofs.Steps.{below_law}
use Rattle.cl_order_laws.proofs.SureHub.{sure_hub_law}
use Rattle.cl_moves.specs.Ahead.{GoesAhead, WentAhead}
use Rattle.cl_moves.specs.Moves.{AreTurnsOf, IsMove, turn_at}
use Rattle.cl_moves.specs.Standing.{IsWay, StandsAt, Takes, by_order, node_of}
use Rattle.cl_moves.specs.Posts.{most_posts}
use Rattle.cl_moves.specs.Sure.{GoesSurely, IsReadyKind, IsSureCallIfSome, IsSureIfSome, IsSureNext, IsSureTurn, SettlesBy}
use Rattle.cl_moves.specs.declared.single.Whose.{Whose}
use Rattle.cl_moves.specs.declared.standing.Standing.{Standing}
use Rattle.cl_moves.proofs.Asking.{move}

-- ---- to where ranks went ahead

-- a cluster that is alike itself covers each from which its ranks went ahead
pub went_covers : (plans : Plans) (here there : Node) → WentAhead plans here there → AreAlike there.cluster there.cluster
    → IsCovered plans (there ∷ []) here
went_covers plans here there went alike = record {
  index = 0;
  node = there;
  there = refl;
  names = alike.0;
  many = went.many;
  ranks = λ r rank was.
      let v = went.ranks r rank was in
      let w = ((alike.1).ranks).each r v.0 v.1 in (
        v.0,
        v.1,
        record {
          turns = v.2.0;
          then = v.0;
          after = there.had r;
          ahead = v.2.1;
          alike = subst (AlikeRanks alike.0 v.0) (same_Some w.0 v.0 (sym w.1 ∙ v.1)) w.2;
          place = inl (λ k. refl);
        },
      );
  hubs = subst (λ (j : Journal). AlikeHubs alike.0 (hub_of j) (hub_of there.cluster.journal)) went.journal (alike.1).hubs;
  boxes = subst (λ (b : List Box). AreEach AlikeBoxes b there.cluster.boxes) went.boxes (alike.1).boxes;
}

runs_on : (es fs : List Step) (a b c : Cluster) → IsRun a es b → IsRun b fs c → IsRun a (es ++ fs) c
runs_on [] fs a b c first second = subst (λ k. IsRun k fs c) first second
runs_on (e ∷ es) fs a b c first second = (first.0, first.1, runs_on es fs first.0 b c first.2 second)

-- where a way leads from what was reached was reached too, so it is alike itself
pub reached_by : (plans : Plans) (start here : Node) (steps : List Step) → IsReached start.cluster
    → IsWay plans start steps here → IsReached here.cluster
reached_by plans start here steps reached way = (
  reached.0,
  reached.1 ++ steps,
  runs_on reached.1 steps _ start.cluster here.cluster reached.2 way.run,
)

pub alike_by : (plans : Plans) (start here : Node) (steps : List Step) → IsReached start.cluster
    → IsWay plans start steps here → AreAlike here.cluster here.cluster
alike_by plans start here steps reached way =
    likeness_law.itself here.cluster (reached_by plans start here steps reached way)

-- ---- the call that is told

at_last : (rest : List Step) (turn : Step) → slice_get (rest ++ turn ∷ []) (length rest) ≡ Some turn
at_last [] turn = refl
at_last (x ∷ rest) turn = at_last rest turn

last_of : (rest : List Step) (x turn : Step) → x ∷ [] ≡ rest ++ turn ∷ [] → turn ≡ x
last_of [] x turn is = same_Some turn x (sym (ap (λ xs. slice_get xs 0) is))
last_of (y ∷ rest) x turn is = absurd (omega (arith, ap length is, length-append rest (turn ∷ [])))

pub told_call : (standing : Standing) (whose : Whose) (request : Request) (turns rest : List Step) (turn : Step)
    → AreTurnsOf whose.rank whose.hart turns
    → ((links : List Link) (calls : List Call) → StandsFor standing.cluster.hub links calls
    → turns
    ≡ turn_at whose (max whose.clock standing.cluster.clock + 1) (Kind.Hub (reply_of links calls whose.rank request)) ∷ [])
    → turns ≡ rest ++ turn ∷ [] → (o : Option Step) → IsSureIfSome turn request o
    → IsSureCallIfSome standing whose request o
told_call standing whose request turns rest turn own are is None sure = tt
told_call standing whose request turns rest turn own are is (Some e) sure =
    let of = own (length rest) turn (subst (λ xs. slice_get xs (length rest) ≡ Some turn) (sym is) (at_last rest turn)) in
    record {
      rank_is = ap (λ (f : Step). f.rank) sure.0 ∙ of.rank_is;
      hart_is = ap (λ (f : Step). f.hart) sure.0 ∙ of.hart_is;
      low = subst (λ (f : Step). f.stamp < 2 ^ 62) (sym sure.0) of.low;
      turn_is = λ links calls stands. sure.0 ∙ last_of rest _ turn (sym (are links calls stands) ∙ is);
      ready = sure.1;
    }

pub told_next : (order : List ℕ) (standing : Standing) (rank : ℕ) (own : RankState) (had : ℕ) (whose : Whose)
    (request : Request) → slice_get standing.cluster.ranks.items rank ≡ Some own
    → slice_get standing.had.items rank ≡ Some had → whose.rank ≡ rank → whose.hart ≡ in_slot order had
    → whose.clock ≡ own.clock → whose.hart < length own.harts.items → asked (rank_of own) whose.hart ≡ Ask.Hub request
    → (o : Option Step) → IsSureCallIfSome standing whose request o → IsSureNext order standing rank o
told_next order standing rank own had whose request there turns rank_is hart_is clock_is inside asks None call = tt
told_next order standing rank own had whose request there turns rank_is hart_is clock_is inside asks (Some e) call = record {
  own = own;
  had = had;
  there = there;
  turns = turns;
  whose = whose;
  rank_is = rank_is;
  hart_is = hart_is;
  clock_is = clock_is;
  inside = inside;
  request = request;
  asks = asks;
  call = call;
}

-- ---- a call for what is there

module _ (order : List ℕ) (old : Standing) (rank : ℕ) (e : Step) (turn : IsSureTurn order old rank e)
    (image : ImageParts) (here : Node) (stands : StandsAt image old here) where
  abbrev own : Rank
  own = rank_of turn.own

  abbrev journal : Journal
  journal = here.cluster.journal

  rank_is : e.rank ≡ rank
  rank_is = (turn.call).rank_is ∙ turn.rank_is

  there : slice_get here.cluster.ranks e.rank ≡ Some own
  there =
      subst (λ r. slice_get here.cluster.ranks r ≡ Some own) (sym rank_is)
      (ap (λ (rs : List Rank). slice_get rs rank) stands.stands.ranks_are
      ∙ (slice_get-map rank_of old.cluster.ranks.items rank ∙ ap (option_map rank_of) turn.there))

  hart : e.hart ≡ by_order order e.rank (here.had e.rank)
  hart =
      (turn.call).hart_is
      ∙ (turn.hart_is ∙ ap (in_slot order) (sym (ap here.had rank_is ∙ stands.had rank turn.had turn.turns)))

  asks : asked own e.hart ≡ Ask.Hub turn.request
  asks = ap (asked own) (turn.call).hart_is ∙ turn.asks

  kind : e.kind ≡ Kind.Hub (reply_in journal e.rank turn.request)
  unfolding reply_in
  kind =
      ap (λ (f : Step). f.kind) ((turn.call).turn_is image.links (calls_of journal.entries) stands.stands.hub_stands)
      ∙ (λ i. Kind.Hub (reply_of (sym stands.stands.of.links i) (calls_of journal.entries) (sym (turn.call).rank_is i)
      turn.request))

  stamp : e.stamp ≡ max own.clock journal.clock + 1
  stamp =
      ap (λ (f : Step). f.stamp) ((turn.call).turn_is image.links (calls_of journal.entries) stands.stands.hub_stands)
      ∙ (λ i. max (turn.clock_is i) (stands.stands.clock_is i) + 1)

  abbrev next : Cluster
  next = called here.cluster e own turn.request

  inside : e.hart < length own.harts
  inside = subst (λ h. h < length own.harts) (sym (turn.call).hart_is) turn.inside

  -- it is a step of the machine
  step : IsStep here.cluster e next
  step = (
    own,
    there,
    inside,
    (turn.call).low,
    subst (λ k. CaseOf here.cluster e own k next) (sym kind) (turn.request, asks, refl, stamp, refl),
  )

  -- and the only one of its rank's hart
  only : (f : Step) (new : Cluster) → f.rank ≡ e.rank → f.hart ≡ by_order order e.rank (here.had e.rank)
      → Leads here.cluster f new → f ≡ e
  only f new r h leads =
      let mine : f.hart ≡ e.hart = h ∙ sym hart in
      let is : leads.0 ≡ own =
      same_Some leads.0 own (sym leads.1 ∙ subst (λ k. slice_get here.cluster.ranks k ≡ Some own) (sym r) there) in
      let case : CaseOf here.cluster f own f.kind new = subst (λ x. CaseOf here.cluster f x f.kind new) is leads.3 in
      let its : IsMove here.cluster f own (Ask.Hub turn.request) =
      subst (λ a. IsMove here.cluster f own a) (ap (asked own) mine ∙ asks) (move here.cluster new f own f.kind refl case) in
      let same_kind : f.kind ≡ e.kind =
      its.0 ∙ (ap (λ k. Kind.Hub (reply_in journal k turn.request)) r ∙ sym kind) in
      let same_stamp : f.stamp ≡ e.stamp = its.1 ∙ sym stamp in
      λ i. record { rank = r i; hart = mine i; stamp = same_stamp i; kind = same_kind i }

  -- so what settles where it leads settles here
  settles : AreAlike here.cluster here.cluster → (led : Cluster) → IsStep here.cluster e led
      → SettlesBy (by_order order) here (node_of led (one_more here.had e.rank))
  settles alike led taken = λ nodes settled. (
    suc settled.0,
    inr (inr (
      e.rank,
      sure_hub_law (by_order order) most_posts here e.rank own turn.request (omega arith) alike there
          (ap (asked own) (sym hart) ∙ asks)
          (subst (IsReadyKind turn.request) kind (turn.call).ready),
      λ f new r h leads.
          let same = only f new r h leads in
          let again : Leads here.cluster e new = subst (λ (g : Step). Leads here.cluster g new) same leads in
          let one = step_once here.cluster e led new taken (below_law here.cluster new e again (turn.call).low) in
          subst (λ c. Settles (by_order order) most_posts nodes settled.0 (node_of c (one_more here.had e.rank))) one
          settled.1,
    )),
  )

-- ---- one after another

pub sure_stays : (order : List ℕ) (old : Standing) → GoesSurely order old old
sure_stays order old = λ image start here stands way reached. (here, stands, way, λ nodes settled. settled)

pub sure_more : (order : List ℕ) (old mid new : Standing) → GoesSurely order old mid → GoesSurely order mid new
    → GoesSurely order old new
sure_more order old mid new first second = λ image start here stands way reached.
    let v = first image start here stands way reached in
    let w = second image start v.0 v.1 v.2 reached in
    (w.0, w.1, w.2, λ nodes settled. v.3 nodes (w.3 nodes settled))

pub sure_ahead : (order : List ℕ) (old new : Standing) → GoesAhead order old new → GoesSurely order old new
sure_ahead order old new ahead = λ image start here stands way reached.
    let v = ahead image start here stands way in
    let covered = went_covers (by_order order) here v.0 v.3
    (alike_by (by_order order) start v.0 new.steps.items reached v.2) in (
      v.0,
      v.1,
      v.2,
      λ nodes settled. (suc settled.0, inr (inl (v.0, covered, settled.1))),
    )

-- by whether it was a step
pub sure_taken : (order : List ℕ) (old new : Standing) (rank : ℕ) (e : Step) → IsSureTurn order old rank e → (b : Bool)
    → Takes old e new b → GoesSurely order old new
sure_taken order old new rank e turn true took = λ image start here stands way reached.
    let plans = by_order order in
    let led = took image plans start here stands way (hart order old rank e turn image here stands) in (
      node_of led.0 (one_more here.had e.rank),
      led.2,
      led.3,
      settles order old rank e turn image here stands (alike_by plans start here old.steps.items reached way) led.0 led.1,
    )
sure_taken order old new rank e turn false none = λ image start here stands way reached.
    absurd (none image here _ stands (step order old rank e turn image here stands))

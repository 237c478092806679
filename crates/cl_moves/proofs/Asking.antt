-- Each turn that leads anywhere is one that its hart asks for, and that is told.
use Rattle.std.specs.Prelude.{ℕ, zero, suc, ◌+◌, ◌<◌, ◌≤◌, ◌^◌, ◌≡◌, ◌⊎◌, max, length, List, [], ◌∷◌, slice_get, Some, option_map, Result, Ok, Err, IfOk}
use Rattle.std.proofs.Common.{refl, sym, ap, ◌∙◌, subst, arith, inl, inr}
use Rattle.std.proofs.lemmas.List.{length-map}
use Rattle.std.proofs.lemmas.Option.{same_Some, slice_get-map, slice_get_within}
use Rattle.rv_image_types.specs.declared.images.ImageParts.{ImageParts}
use Rattle.rv_image_types.specs.declared.images.Link.{Link}
use Rattle.mp_types.specs.declared.requests.Request.{Request}
use Rattle.mp_hub.specs.Hub.{Call, reply_of}
use Rattle.mp_hub.specs.Outcomes.{StandsFor}
use Rattle.cl_journal.specs.Journal.{calls_of}
use Rattle.cl_state.specs.declared.asking.Ask.{Ask}
use Rattle.cl_state.specs.declared.state.RankState.{RankState}
use Rattle.cl_state.specs.Asked.{asked}
use Rattle.cl_state.specs.Rank.{Rank}
use Rattle.cl_state.specs.Room.{rank_of}
use Rattle.cl_trace.specs.declared.events.Kind.{Kind}
use Rattle.cl_machine.specs.declared.steps.Step.{Step}
use Rattle.cl_machine.specs.Boxes.{box_number}
use Rattle.cl_machine.specs.Cluster.{CaseOf, Cluster}
use Rattle.cl_machine.specs.Journal.{reply_in}
use Rattle.cl_order_laws.specs.Alike.{Leads}
use Rattle.cl_replay.specs.Boxes.{settled_at}
use Rattle.cl_replay.specs.declared.states.ClusterState.{ClusterState}
use Rattle.cl_replay.specs.States.{ClusterStandsFor}
use Rattle.cl_replay.proofs.Boxed.{shown_of_box}
use Rattle.cl_moves.specs.Moves.{AreTurnsOf, HasAllTurns, HasMoves, IsMove, IsNext, IsTurnOf, Sees, looks, turn_at}
use Rattle.cl_moves.specs.declared.single.Whose.{Whose}

-- ---- what leads anywhere is asked for

module _ (old new : Cluster) (e : Step) (x : Rank) where
  by : (q : Ask) → asked x e.hart ≡ q → IsMove old e x q → IsMove old e x (asked x e.hart)
  by q asks move = subst (λ a. IsMove old e x a) (sym asks) move

  pub move : (kind : Kind) → e.kind ≡ kind → CaseOf old e x kind new → IsMove old e x (asked x e.hart)
  move Kind.Plain is c = by Ask.Plain c.0 (is, c.1)
  move Kind.Local is c = by Ask.Local c.0 (is, c.1)
  move Kind.Held is c = by Ask.Held c.0 (is, c.1)
  move Kind.Idle is c = by Ask.Idle c.0 (is, c.1)
  move (Kind.Hub r) is c = by (Ask.Hub c.0) c.1 (is ∙ ap (λ a. Kind.Hub a) c.2, c.3)
  move Kind.Ready is c = by (Ask.Ready c.0 c.1 c.2) c.4 (is, c.7)
  move Kind.Take is c = by (Ask.Look c.0 c.1) c.4 (inr (is, c.3, c.5, c.7))
  move Kind.Freed is c = by (Ask.Freed c.0 c.1) c.3 (inr (is, c.2, c.4, c.6))
  move Kind.Miss is c = elim c.2 [
    | inl look ↦ by (Ask.Look c.0 c.1) look (inl (is, c.3))
    | inr freed ↦ by (Ask.Freed c.0 c.1) freed (inl (is, c.3))
  ]

-- ---- a turn is what its parts are

is_turn : (whose : Whose) (e : Step) (stamp : ℕ) (kind : Kind) → e.rank ≡ whose.rank → e.hart ≡ whose.hart
    → e.stamp ≡ stamp → e.kind ≡ kind → turn_at whose stamp kind ≡ e
is_turn whose e stamp kind r h s k = λ i. record { rank = sym r i; hart = sym h i; stamp = sym s i; kind = sym k i }

-- the turns that are told of a hart that asks this
module _ (state : ClusterState) (whose : Whose) (turns : List Step) where
  -- one that meets nobody
  pub bare_moves : (ask : Ask) (kind : Kind) → turns ≡ turn_at whose (whose.clock + 1) kind ∷ []
      → ((cluster : Cluster) (e : Step) (rank : Rank) → IsMove cluster e rank ask → IsNext e rank kind)
      → HasMoves state whose ask turns
  bare_moves ask kind is asks image cluster e rank stands clock r h m =
      let next = asks cluster e rank m in
      let same : turn_at whose (whose.clock + 1) kind ≡ e =
      is_turn whose e (whose.clock + 1) kind r h (next.1 ∙ ap (λ n. n + 1) clock) next.0 in
      (0, ap (λ xs. slice_get xs 0) is ∙ ap (λ t. Some t) same)

  -- a look
  pub look_moves : (ask : Ask) (link part : ℕ) (kind : Kind)
      → turns ≡ looks whose kind (settled_at state.boxes.items (box_number link part))
      → ((cluster : Cluster) (e : Step) (rank : Rank) → IsMove cluster e rank ask
      → IsNext e rank Kind.Miss ⊎ Sees cluster e rank link part kind)
      → HasMoves state whose ask turns
  look_moves ask link part kind is asks image cluster e rank stands clock r h m =
      elim (asks cluster e rank m) [
        | inl misses ↦
            let same : turn_at whose (whose.clock + 1) Kind.Miss ≡ e =
            is_turn whose e (whose.clock + 1) Kind.Miss r h (misses.1 ∙ ap (λ n. n + 1) clock) misses.0 in
            (0, ap (λ xs. slice_get xs 0) is ∙ ap (λ t. Some t) same)
        | inr sees ↦
            let at = shown_of_box image state.boxes.items cluster.boxes stands.boxes_show stands.of.boxes
            (box_number link part) sees.1 sees.2 in
            let stamp : e.stamp ≡ max whose.clock at.0.stamp + 1 =
            sees.3 ∙ ((λ i. max (clock i) (sees.1).stamp + 1) ∙ ap (λ n. max whose.clock n + 1) (sym at.2.stamp)) in
            let same : turn_at whose (max whose.clock at.0.stamp + 1) kind ≡ e =
            is_turn whose e (max whose.clock at.0.stamp + 1) kind r h stamp sees.0 in
            (1, ap (λ xs. slice_get xs 1) (is ∙ ap (looks whose kind) at.1) ∙ ap (λ t. Some t) same)
      ]

  -- a call
  pub call_moves : (q : Request)
      → ((links : List Link) (calls : List Call) → StandsFor state.hub links calls
      → turns ≡ turn_at whose (max whose.clock state.clock + 1) (Kind.Hub (reply_of links calls whose.rank q)) ∷ [])
      → HasMoves state whose (Ask.Hub q) turns
  unfolding reply_in
  call_moves q is image cluster e rank stands clock r h m =
      let calls = calls_of cluster.journal.entries in
      let reply = reply_of image.links calls whose.rank q in
      let kind : e.kind ≡ Kind.Hub reply =
      m.0 ∙ ((λ i. Kind.Hub (reply_in cluster.journal (r i) q))
      ∙ ap (λ (links : List Link). Kind.Hub (reply_of links calls whose.rank q)) stands.of.links) in
      let stamp : e.stamp ≡ max whose.clock state.clock + 1 =
      m.1 ∙ ((λ i. max (clock i) cluster.journal.clock + 1) ∙ ap (λ n. max whose.clock n + 1) (sym stands.clock_is)) in
      let same : turn_at whose (max whose.clock state.clock + 1) (Kind.Hub reply) ≡ e =
      is_turn whose e (max whose.clock state.clock + 1) (Kind.Hub reply) r h stamp kind in
      (0, ap (λ xs. slice_get xs 0) (is image.links calls stands.hub_stands) ∙ ap (λ t. Some t) same)

-- ---- of which hart they are

pub one_of : (whose : Whose) (turns : List Step) (stamp : ℕ) (kind : Kind) → turns ≡ turn_at whose stamp kind ∷ []
    → stamp < 2 ^ 62 → AreTurnsOf whose.rank whose.hart turns
one_of whose turns stamp kind is low = λ i e at.
    only i e (subst (λ xs. slice_get xs i ≡ Some e) is at)
  where
    only : (i : ℕ) (e : Step) → slice_get (turn_at whose stamp kind ∷ []) i ≡ Some e → IsTurnOf whose.rank whose.hart e
    only zero e at = subst (IsTurnOf whose.rank whose.hart) (same_Some (turn_at whose stamp kind) e at)
        (record { rank_is = refl; hart_is = refl; low = low })
    only (suc i) e at = absurd (cc)

-- ---- of a state

module _ (state : ClusterState) (rank hart : ℕ) where
  count_is : (image : ImageParts) (cluster : Cluster) → ClusterStandsFor image state cluster
      → length cluster.ranks ≡ length state.ranks.items
  count_is image cluster stands = ap (λ (rs : List Rank). length rs) stands.ranks_are ∙ length-map state.ranks.items rank_of

  -- the rank isn't there
  pub no_rank : (turns : List Step) → length state.ranks.items ≤ rank → HasAllTurns state rank hart turns
  no_rank turns past = λ image cluster new e stands r h leads.
      let inside = slice_get_within cluster.ranks e.rank leads.0 leads.1 in
      absurd (omega (arith, past, inside, r, count_is image cluster stands))

  module _ (own : RankState) (there : slice_get state.ranks.items rank ≡ Some own) where
    rank_is : (image : ImageParts) (cluster : Cluster) → ClusterStandsFor image state cluster
        → slice_get cluster.ranks rank ≡ Some (rank_of own)
    rank_is image cluster stands =
        ap (λ (rs : List Rank). slice_get rs rank) stands.ranks_are
        ∙ (slice_get-map rank_of state.ranks.items rank ∙ ap (option_map rank_of) there)

    own_is : (image : ImageParts) (cluster new : Cluster) (e : Step) (stands : ClusterStandsFor image state cluster)
        → e.rank ≡ rank → (leads : Leads cluster e new) → leads.0 ≡ rank_of own
    own_is image cluster new e stands r leads =
        same_Some leads.0 (rank_of own)
        (sym leads.1 ∙ subst (λ k. slice_get cluster.ranks k ≡ Some (rank_of own)) (sym r) (rank_is image cluster stands))

    -- the hart isn't there
    pub no_hart : (turns : List Step) → length own.harts.items ≤ hart → HasAllTurns state rank hart turns
    no_hart turns past = λ image cluster new e stands r h leads.
        let is = own_is image cluster new e stands r leads in
        let low : e.hart < length own.harts.items = subst (λ (x : Rank). e.hart < length x.harts) is leads.2 in
        absurd (omega (arith, past, low, h))

    pub all_turns : (whose : Whose) (turns : List Step) → whose.rank ≡ rank → whose.hart ≡ hart → whose.clock ≡ own.clock
        → HasMoves state whose (asked (rank_of own) hart) turns → HasAllTurns state rank hart turns
    all_turns whose turns rank_same hart_same clock moves = λ image cluster new e stands r h leads.
        let is = own_is image cluster new e stands r leads in
        let case : CaseOf cluster e (rank_of own) e.kind new =
        subst (λ x. CaseOf cluster e x e.kind new) is leads.3 in
        moves image cluster e (rank_of own) stands (sym clock) (r ∙ sym rank_same) (h ∙ sym hart_same)
        (subst (λ k. IsMove cluster e (rank_of own) (asked (rank_of own) k)) h
        (move cluster new e (rank_of own) e.kind refl case))

-- ---- what was told, if anything

pub if_ok_on : {A E : Type 0} {P Q : A → Type 0} (r : Result A E) → ((x : A) → P x → Q x) → IfOk r P → IfOk r Q
if_ok_on (Ok x) on holds = on x holds
if_ok_on (Err e) on holds = tt

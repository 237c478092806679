-- What holds of a cluster by what is told of its state.
use Rattle.std.specs.Prelude.{ℕ, ◌≡◌, ◌<◌, ◌≤◌, ◌⊎◌, ◌↔◌, Bool, length, List, option_map, slice_get, Some, true, false}
use Rattle.std.proofs.Common.{sym, ap, subst, ◌∙◌, arith, inl, inr}
use Rattle.std.proofs.lemmas.Bool.{cases_Bool}
use Rattle.std.proofs.lemmas.Option.{same_Some, slice_get-map, slice_get_within}
use Rattle.std.proofs.lemmas.List.{length-map}
use Rattle.rv_image_types.specs.declared.images.ImageParts.{ImageParts}
use Rattle.rv_image_types.specs.declared.images.Link.{Link}
use Rattle.part_box.specs.declared.settled.Settled.{Settled}
use Rattle.mp_types.specs.declared.requests.Request.{Request}
use Rattle.mp_hub.specs.Hub.{HubView, hub_at_start}
use Rattle.mp_hub.proofs.Transfers.{links_on}
use Rattle.mp_hub.specs.Vain.{asks_in_vain}
use Rattle.mp_transfers.specs.Inits.{is_receiver}
use Rattle.mp_wait_laws.specs.Waits.{IsUpTo, OnlyOf, WaitsFor, sends_over}
use Rattle.mp_wait_laws.proofs.Vain.{vain_law}
use Rattle.cl_journal.specs.Journal.{calls_of}
use Rattle.cl_state.specs.declared.state.RankState.{RankState}
use Rattle.cl_state.specs.Rank.{Rank}
use Rattle.cl_state.specs.Room.{rank_of}
use Rattle.cl_state_laws.specs.Vain.{IsStopped, mode_of}
use Rattle.cl_replay.specs.Below.{box_number}
use Rattle.cl_replay.specs.Below.{Cluster}
use Rattle.cl_replay.specs.declared.states.ClusterState.{ClusterState}
use Rattle.cl_replay.specs.Boxes.{settled_at}
use Rattle.cl_replay.specs.States.{ClusterStandsFor}
use Rattle.cl_replay.proofs.Boxed.{empty_is, shown_of_box, shown_of_settled}
use Rattle.cl_deadlock_laws.specs.Stuck.{IsEmptyAt, IsFullAt, IsStuckHart}
use Rattle.cl_deadlock_laws.specs.Laws.{IsStuckBeside}

module _ (image : ImageParts) (state : ClusterState) (cluster : Cluster) (stands : ClusterStandsFor image state cluster) where
  -- the hub's answer is that of the journal's calls
  pub waits : (member : ℕ → ℕ → Bool) (among : ℕ → Bool) (rank : ℕ) (q : Request)
      → ((asks_in_vain state.hub rank q ≡ true) × IsUpTo member among state.hub rank q)
      ↔ WaitsFor member among cluster.journal.links (calls_of cluster.journal.entries) rank q
  waits member among rank q =
      let calls = calls_of cluster.journal.entries in
      let law = vain_law image.links calls rank q in
      subst (λ links. ((asks_in_vain state.hub rank q ≡ true) × IsUpTo member among state.hub rank q)
      ↔ WaitsFor member among links calls rank q) (sym stands.of.links)
      (subst (λ (h : HubView). ((asks_in_vain h rank q ≡ true) × IsUpTo member among h rank q)
      ↔ WaitsFor member among image.links calls rank q) (sym stands.hub_stands)
      (λ its. (law.0 its.0, its.1), λ its. (law.1 its.0, its.1)))

  links_are : state.hub.links ≡ cluster.journal.links
  links_are =
      ap (λ (h : HubView). h.links) stands.hub_stands
      ∙ (links_on (calls_of cluster.journal.entries) (hub_at_start image.links) ∙ sym stands.of.links)

  -- what stands in a box of the state stands in the cluster's
  is_empty : (n : ℕ) → ((s : Settled) → settled_at state.boxes.items n ≡ Some s → s.full ≡ false)
      → IsEmptyAt cluster.boxes n
  is_empty n told box there =
      let h = shown_of_box image state.boxes.items cluster.boxes stands.boxes_show stands.of.boxes n box there in
      (h.2.empty (told h.0 h.1)).0

  told_empty : (n : ℕ) → IsEmptyAt cluster.boxes n
      → (s : Settled) → settled_at state.boxes.items n ≡ Some s → s.full ≡ false
  told_empty n empty s there =
      let h = shown_of_settled image state.boxes.items cluster.boxes stands.boxes_show stands.of.boxes n s there in
      empty_is image.version s h.0 h.2 (empty h.0 h.1)

  is_full : (n : ℕ) → ((s : Settled) → settled_at state.boxes.items n ≡ Some s → s.full ≡ true)
      → IsFullAt cluster.boxes n
  is_full n told box there empty =
      let h = shown_of_box image state.boxes.items cluster.boxes stands.boxes_show stands.of.boxes n box there in
      let no : false ≡ true = sym (empty_is image.version h.0 box h.2 empty) ∙ told h.0 h.1 in absurd (cc)

  told_full : (n : ℕ) → IsFullAt cluster.boxes n
      → (s : Settled) → settled_at state.boxes.items n ≡ Some s → s.full ≡ true
  told_full n full s there =
      let h = shown_of_settled image state.boxes.items cluster.boxes stands.boxes_show stands.of.boxes n s there in
      elim (cases_Bool s.full) [ inl is ↦ is | inr none ↦ absurd (full h.0 h.1 (h.2.empty none).0) ]

  pub unsent : (among : ℕ → Bool) (link part : ℕ)
      → (((s : Settled) → settled_at state.boxes.items (box_number link part) ≡ Some s → s.full ≡ false)
      × OnlyOf among (sends_over state.hub.links link))
      ↔ (IsEmptyAt cluster.boxes (box_number link part) × OnlyOf among (sends_over cluster.journal.links link))
  unsent among link part = (
    λ its. (
      is_empty (box_number link part) its.0,
      subst (λ (links : List Link). OnlyOf among (sends_over links link)) links_are its.1,
    ),
    λ its. (
      told_empty (box_number link part) its.0,
      subst (λ (links : List Link). OnlyOf among (sends_over links link)) (sym links_are) its.1,
    ),
  )

  pub untaken : (among : ℕ → Bool) (link part : ℕ)
      → (((s : Settled) → settled_at state.boxes.items (box_number link part) ≡ Some s → s.full ≡ true)
      × OnlyOf among (λ k. is_receiver state.hub.links k link))
      ↔ (IsFullAt cluster.boxes (box_number link part) × OnlyOf among (λ k. is_receiver cluster.journal.links k link))
  untaken among link part = (
    λ its. (
      is_full (box_number link part) its.0,
      subst (λ (links : List Link). OnlyOf among (λ k. is_receiver links k link)) links_are its.1,
    ),
    λ its. (
      told_full (box_number link part) its.0,
      subst (λ (links : List Link). OnlyOf among (λ k. is_receiver links k link)) (sym links_are) its.1,
    ),
  )

  -- the rank of this number is the state's
  pub rank_is : (r : ℕ) (at : RankState) (rank : Rank) → slice_get state.ranks.items r ≡ Some at
      → slice_get cluster.ranks r ≡ Some rank → rank ≡ rank_of at
  rank_is r at rank here there =
      same_Some rank (rank_of at)
      (sym there ∙ (ap (λ (rs : List Rank). slice_get rs r) stands.ranks_are
      ∙ (slice_get-map rank_of state.ranks.items r ∙ ap (option_map rank_of) here)))

  -- a rank that isn't there is stuck
  pub not_there : (among : List ℕ) (r : ℕ) → length state.ranks.items ≤ r → IsStuckBeside among cluster r
  not_there among r past rank hart there low =
      let inside = slice_get_within cluster.ranks r rank there in
      let count : length cluster.ranks ≡ length state.ranks.items =
      ap (λ (rs : List Rank). length rs) stands.ranks_are ∙ length-map _ _ in
      absurd (omega (arith, past, inside, count))

  -- a rank is stuck of which each hart is stopped or held
  pub by_harts : (among : List ℕ) (r : ℕ) (own : RankState) → slice_get state.ranks.items r ≡ Some own
      → ((hart : ℕ) → hart < length own.harts.items
      → IsStopped (mode_of (rank_of own) hart) ⊎ IsStuckHart among cluster r (rank_of own) hart)
      → IsStuckBeside among cluster r
  by_harts among r own here each rank hart there =
      subst (λ (x : Rank). hart < length x.harts → IsStopped (mode_of x hart) ⊎ IsStuckHart among cluster r x hart)
      (sym (rank_is r own rank here there)) (each hart)

  -- the state's rank is the cluster's
  pub own_at : (r : ℕ) (own : RankState) → slice_get state.ranks.items r ≡ Some own
      → slice_get cluster.ranks r ≡ Some (rank_of own)
  own_at r own here =
      ap (λ (rs : List Rank). slice_get rs r) stands.ranks_are
      ∙ (slice_get-map rank_of state.ranks.items r ∙ ap (option_map rank_of) here)

  -- of a rank that is stuck each hart is stopped or held
  pub each_hart : (among : List ℕ) (r : ℕ) (own : RankState) → slice_get state.ranks.items r ≡ Some own
      → IsStuckBeside among cluster r → (hart : ℕ) → hart < length own.harts.items
      → IsStopped (mode_of (rank_of own) hart) ⊎ IsStuckHart among cluster r (rank_of own) hart
  each_hart among r own here stuck hart low = stuck (rank_of own) hart (own_at r own here) low

  pub count_is : length cluster.ranks ≡ length state.ranks.items
  count_is = ap (λ (rs : List Rank). length rs) stands.ranks_are ∙ length-map _ _

-- Ends, by what is told of the state.
use Rattle.std.specs.Prelude.{ℕ, zero, suc, ◌+◌, ◌*◌, ◌%◌, ◌<◌, ◌≤◌, ◌≡◌, ◌↔◌, true, false, List, [], ◌∷◌, length, option_map, slice_get, slice_index, Option, Some, None}
use Rattle.std.proofs.Common.{refl, sym, ap, subst, ◌∙◌, arith, inl, inr}
use Rattle.std.proofs.lemmas.Bool.{cases_Bool, cases_eq}
use Rattle.std.proofs.lemmas.Option.{same_Some, slice_get-map, slice_get_within}
use Rattle.std.proofs.lemmas.List.{length-map}
use Rattle.std.proofs.lemmas.Nat.{mod-mul-add}
use Rattle.rv_image_types.specs.declared.images.ImageParts.{ImageParts}
use Rattle.mp_types.specs.declared.requests.Request.{Request}
use Rattle.mp_types.specs.declared.replies.Reply.TheVariants.{NotYet}
use Rattle.mp_hub.specs.Hub.{HubView}
use Rattle.mp_hub.specs.Vain.{asks_in_vain}
use Rattle.mp_wait_laws.proofs.Vain.{vain_law}
use Rattle.cl_journal.specs.Journal.{calls_of}
use Rattle.cl_deeds.specs.Orders.{in_slot}
use Rattle.cl_state.specs.declared.state.RankState.{RankState}
use Rattle.cl_state.specs.Rank.{Rank}
use Rattle.cl_state.specs.Room.{rank_of}
use Rattle.cl_machine.specs.Boxes.{box_number}
use Rattle.cl_machine.specs.Cluster.{Cluster}
use Rattle.cl_machine.specs.Journal.{reply_in}
use Rattle.cl_replay.specs.declared.states.ClusterState.{ClusterState}
use Rattle.cl_replay.specs.States.{ClusterStandsFor}
use Rattle.cl_replay.proofs.Boxed.{empty_is, shown_of_box, shown_of_settled}
use Rattle.cl_order_laws.specs.Closed.{IsEnd, IsInVain}
use Rattle.cl_state.specs.declared.asking.Ask.{Ask}
use Rattle.cl_moves.specs.Ends.{AreResting, IsFullIn, IsResting, IsVacantIn}
use Rattle.cl_moves.specs.Standing.{by_order}

-- ---- one hart

module _ (image : ImageParts) (state : ClusterState) (cluster : Cluster) (stands : ClusterStandsFor image state cluster)
    (rank : ℕ) where
  pub hub_in_vain : (q : Request) → (asks_in_vain state.hub rank q ≡ true) ↔ IsInVain cluster rank (Ask.Hub q)
  unfolding reply_in
  hub_in_vain q =
      let calls = calls_of cluster.journal.entries in
      let law = vain_law image.links calls rank q in
      subst (λ links. (asks_in_vain state.hub rank q ≡ true) ↔ (reply_in (record cluster.journal { links = links }) rank q ≡ NotYet))
      (sym stands.of.links)
      (subst (λ (h : HubView). (asks_in_vain h rank q ≡ true)
      ↔ (reply_in (record cluster.journal { links = image.links }) rank q ≡ NotYet)) (sym stands.hub_stands) law)

  pub box_vacant : (link part : ℕ) → IsVacantIn state.boxes.items link part ↔ IsInVain cluster rank (Ask.Look link part)
  box_vacant link part = (
    λ vacant box there.
        let at = shown_of_box image state.boxes.items cluster.boxes stands.boxes_show stands.of.boxes
        (box_number link part) box there in
        (at.2.empty (vacant at.0 at.1)).0,
    λ empty s there.
        let at = shown_of_settled image state.boxes.items cluster.boxes stands.boxes_show stands.of.boxes
        (box_number link part) s there in
        empty_is image.version s at.0 at.2 (empty at.0 at.1),
  )

  pub box_full : (link part : ℕ) → IsFullIn state.boxes.items link part ↔ IsInVain cluster rank (Ask.Freed link part)
  box_full link part = (
    λ full box there empty.
        let at = shown_of_box image state.boxes.items cluster.boxes stands.boxes_show stands.of.boxes
        (box_number link part) box there in
        let no : true ≡ false = sym (full at.0 at.1) ∙ empty_is image.version at.0 box at.2 empty in absurd (cc),
    λ vain s there.
        let at = shown_of_settled image state.boxes.items cluster.boxes stands.boxes_show stands.of.boxes
        (box_number link part) s there in
        elim (cases_Bool s.full) [
          | inl is ↦ is
          | inr none ↦ absurd (vain at.0 at.1 (at.2.empty none).0)
        ],
  )

  -- the state's rank is the cluster's
  pub own_at : (own : RankState) → slice_get state.ranks.items rank ≡ Some own
      → slice_get cluster.ranks rank ≡ Some (rank_of own)
  own_at own here =
      ap (λ (rs : List Rank). slice_get rs rank) stands.ranks_are
      ∙ (slice_get-map rank_of state.ranks.items rank ∙ ap (option_map rank_of) here)

-- ---- one after another

pub at_index : (xs : List ℕ) (i : ℕ) → i < length xs → slice_get xs i ≡ Some (slice_index xs i)
at_index [] i low = absurd (omega (arith, low))
at_index (x ∷ xs) zero low = refl
at_index (x ∷ xs) (suc i) low = at_index xs i (omega (arith, low))

-- ---- each hart that a plan names

in_list : (order : List ℕ) (n : ℕ) → 0 < length order → slice_get order (n % length order) ≡ Some (in_slot order n)
in_list order n some = at_index order (n % length order) (omega (arith, some))

named : (order : List ℕ) (i hart : ℕ) → slice_get order i ≡ Some hart → in_slot order i ≡ hart
named order i hart at =
    let inside = slice_get_within order i hart at in
    let here : i % length order ≡ i =
    ap (λ k. k % length order) (let e : i ≡ 0 * length order + i = omega arith in e)
    ∙ mod-mul-add 0 (length order) i inside in
    same_Some (in_slot order i) hart
    (sym (in_list order i (omega (arith, inside))) ∙ (ap (slice_get order) here ∙ at))

module _ (P : ℕ → Type 0) (order : List ℕ) (some : 0 < length order) where
  pub by_slots : ((n : ℕ) → P (in_slot order n)) → (i hart : ℕ) → slice_get order i ≡ Some hart → P hart
  by_slots each i hart at = subst P (named order i hart at) (each i)

  pub by_places : ((i hart : ℕ) → slice_get order i ≡ Some hart → P hart) → (n : ℕ) → P (in_slot order n)
  by_places each n = each (n % length order) (in_slot order n) (in_list order n some)

module _ {A : Type 0} (P : ℕ → A → Type 0) (xs : List A) (n : ℕ)
    (before : (i : ℕ) → i < n → (y : A) → slice_get xs i ≡ Some y → P i y) where
  pub below_on : (x : A) → slice_get xs n ≡ Some x → P n x
      → (i : ℕ) → i < n + 1 → (y : A) → slice_get xs i ≡ Some y → P i y
  below_on x at here i low y there = elim (cases_eq n i) [
    | inl same ↦
        subst (λ k. P k y) same
        (subst (P n) (same_Some x y (sym at ∙ subst (λ k. slice_get xs k ≡ Some y) (sym same) there)) here)
    | inr other ↦ before i (omega (arith, low, other)) y there
  ]

  pub below_all : length xs ≤ n → (i : ℕ) (y : A) → slice_get xs i ≡ Some y → P i y
  below_all all i y there =
      let inside = slice_get_within xs i y there in before i (omega (arith, inside, all)) y there

-- ---- all ranks

module _ (image : ImageParts) (state : ClusterState) (cluster : Cluster) (stands : ClusterStandsFor image state cluster)
    (order : List ℕ) (some : 0 < length order) where
  pub many_ranks : length cluster.ranks ≡ length state.ranks.items
  many_ranks = ap (λ (rs : List Rank). length rs) stands.ranks_are ∙ length-map state.ranks.items rank_of

  -- the rank's part of an end
  pub end_rests : IsEnd (by_order order) cluster → (r : ℕ) (own : RankState) → slice_get state.ranks.items r ≡ Some own
      → AreResting cluster r (rank_of own) order
  end_rests end r own at =
      by_slots (IsResting cluster r (rank_of own)) order some
      (λ n. end r n (rank_of own) (own_at image state cluster stands r own at))

  pub rests_end : ((r : ℕ) (own : RankState) → slice_get state.ranks.items r ≡ Some own
      → AreResting cluster r (rank_of own) order)
      → IsEnd (by_order order) cluster
  rests_end each r n rank there =
      let mapped : option_map rank_of (slice_get state.ranks.items r) ≡ Some rank =
      sym (slice_get-map rank_of state.ranks.items r)
      ∙ (sym (ap (λ (rs : List Rank). slice_get rs r) stands.ranks_are) ∙ there) in
      of (slice_get state.ranks.items r) refl mapped
    where
      of : (o : Option RankState) → slice_get state.ranks.items r ≡ o → option_map rank_of o ≡ Some rank
          → IsResting cluster r rank (in_slot order n)
      of None is mapped = absurd (cc)
      of (Some own) is mapped =
          subst (λ x. IsResting cluster r x (in_slot order n)) (same_Some (rank_of own) rank mapped)
          (by_places (IsResting cluster r (rank_of own)) order some (each r own is) n)

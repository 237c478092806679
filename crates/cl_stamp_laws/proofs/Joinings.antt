-- What a run leaves, part by part, joins.
use Rattle.std.specs.Prelude.{ℕ, zero, suc, ◌+◌, ◌*◌, ◌<◌, ◌≤◌, ◌/◌, List, [], ◌∷◌, ◌≡◌, ◌≢◌, ◌⊎◌, All, Bool}
use Rattle.std.specs.Prelude.{true, false, cond, eqb, length, map, replicate}
use Rattle.std.specs.List.{slice_get, filter_map, AllByRecursion}
use Rattle.std.specs.declared.option.Option.{Option}
use Rattle.std.specs.declared.option.Option.TheVariants.{None, Some}
use Rattle.std.proofs.Common.{refl, sym, ap, ◌∙◌, subst, arith}
use Rattle.std.proofs.lemmas.Bool.{cases_lt, eqb-true, eq-eqb}
use Rattle.std.proofs.lemmas.List.Elements.{All-head, All-tail}
use Rattle.std.proofs.lemmas.Option.{same_Some, slice_get_cases, slice_get_past, slice_get-get_or}
use Rattle.std.proofs.lemmas.List.{get_or-replicate, length-replicate}
use mathlib.Core.Logic.{inl, inr}
use Rattle.rv_image_types.specs.declared.images.ImageParts.{ImageParts}
use Rattle.rv_image_types.specs.declared.images.Link.{Link}
use Rattle.rv_image_types.specs.Image.{IsLink}
use Rattle.cl_journal.specs.declared.entries.Entry.{Entry}
use Rattle.cl_state.specs.Rank.{loaded}
use Rattle.cl_deeds.specs.Deeds.{Act, Deed, PartRun}
use Rattle.cl_machine.specs.declared.steps.Step.{Step}
use Rattle.cl_machine.specs.Boxes.{Box, box_number, empty_box}
use Rattle.cl_machine.specs.Cluster.{loaded_cluster}
use Rattle.cl_machine.specs.Joined.{BoxJoined, BoxJoinedAt, OnItsSide, gate_stamp, got_of, link_of_box}
use Rattle.cl_machine.specs.Joined.{made_of, takes_shown}
use Rattle.cl_machine.specs.Order.{of_rank}
use Rattle.cl_machine.specs.Parts.{PartRunAt, is_index, own}
use Rattle.cl_machine.specs.Product.{box_at, box_for, entry_for, entry_of}
use Rattle.cl_machine.specs.ProductSteps.{BoxMoves, step_of}
use Rattle.cl_machine.proofs.Lists.{filter-keeps, All-filter}
use Rattle.cl_machine.proofs.Picks.{filter-filter, picked_of_rank}
use Rattle.cl_machine.proofs.Views.{IsSending, IsTaking, Rises}
use Rattle.cl_box_laws.specs.Gates.{Gate, KeepsGate}
use Rattle.cl_stamp_laws.specs.Laws.{JoinedLaw}
use Rattle.cl_stamp_laws.proofs.Apart.{apart}
use Rattle.cl_stamp_laws.proofs.Boxing.{FromEmpty, GatePassed, from_empty}
use Rattle.cl_stamp_laws.proofs.Ranks.{RankFacts, Rises-filter, deeds_of, facts, starts}
use Rattle.cl_stamp_laws.proofs.Two.{OfTwo, above_from, gate_from, got_same, made_same, rise_from, shown_same}

-- ---- lists

-- what holds of each rank's part holds of the whole
uncond : {X : Type 0} (P : X → Type 0) (b : Bool) (x : X) (xs : List X) → AllByRecursion P (cond b (x ∷ xs) xs)
    → AllByRecursion P xs
uncond P true x xs h = h.1
uncond P false x xs h = h

gather : (P : ℕ → Deed → Type 0) (ds : List Deed)
    → ((r : ℕ) → AllByRecursion (P r) (deeds_of r ds))
    → AllByRecursion (λ (d : Deed). P d.rank d) ds
gather P [] h = tt
gather P (d ∷ ds) h = (
  (subst (AllByRecursion (P d.rank)) (filter-keeps (λ (x : Deed). eqb x.rank d.rank) d ds (eq-eqb d.rank d.rank refl))
      (h d.rank)).0,
  gather P ds (λ r. uncond (P r) (eqb d.rank r) d (deeds_of r ds) (h r)),
)

All-own : (P Q : Deed → Type 0) (b : ℕ) → ((d : Deed) → P d → is_index b (box_at d) ≡ true → Q d) → (ds : List Deed)
    → AllByRecursion P ds → AllByRecursion Q (own box_at b ds)
All-own P Q b f [] h = tt
All-own P Q b f (d ∷ ds) h = go (is_index b (box_at d)) refl (All-own P Q b f ds h.1)
  where
    go : (k : Bool) → is_index b (box_at d) ≡ k → AllByRecursion Q (own box_at b ds)
        → AllByRecursion Q (cond k (d ∷ own box_at b ds) (own box_at b ds))
    go true e rest = (f d h.0 e, rest)
    go false e rest = rest

get-replicate : {X : Type 0} (n i : ℕ) (x : X) → i < n → slice_get (replicate n x) i ≡ Some x
get-replicate n i x low =
    slice_get-get_or (replicate n x) i x (omega (arith, low, length-replicate n x))
    ∙ ap Some (get_or-replicate n i x x low)

no-replicate : {X : Type 0} (n i : ℕ) (x : X) → n ≤ i → slice_get (replicate n x) i ≡ None
no-replicate n i x up = slice_get_past (replicate n x) i (omega (arith, up, length-replicate n x))

-- ---- one box

same_link : (links : List Link) (b link part : ℕ) (l k : Link) → link_of_box links b ≡ Some l
    → is_index b (Some (box_number link part)) ≡ true
    → slice_get links link ≡ Some k → part < 16 → l ≡ k
same_link links b link part l k h e is small =
    let at : box_number link part ≡ b = eqb-true (box_number link part) b e in
    let same : b / 16 ≡ link = omega (arith, at) in
    same_Some _ _ (sym h ∙ ap (slice_get links) same ∙ is)

-- a box of this link goes from empty through its own deeds
module _ (links : List Link) (b : ℕ) (ds : List Deed)
    (each : (r : ℕ) → RankFacts links r (deeds_of r ds)) where
  abbrev K : List Deed
  K = own box_at b ds

  abbrev deeds : ℕ → List Deed
  deeds r = deeds_of r ds

  own_is : (r : ℕ) → own box_at b (deeds r) ≡ deeds_of r K
  own_is r = filter-filter (λ (d : Deed). is_index b (box_at d)) (λ (d : Deed). eqb d.rank r) ds

  zero_plus : (k : ℕ) → 0 + k ≡ k
  zero_plus k = omega arith

  joined_box : (l : Link) → link_of_box links b ≡ Some l → l.from ≢ l.to → (new : Box) → PartRun BoxMoves empty_box K new
      → BoxJoined links b deeds new
  joined_box l is differ new run = record {
    link = l;
    link_is = is;
    made = filter_map made_of K;
    got = filter_map got_of K;
    made_is = ap (filter_map made_of) (own_is l.from) ∙ made_same l.from l.to differ K two;
    got_is = ap (filter_map got_of) (own_is l.to) ∙ got_same l.from l.to differ K two;
    loaded = takes_shown 0 K;
    loaded_is = ap (takes_shown 0) (own_is l.from) ∙ shown_same l.from l.to differ K 0 two;
    one_more = e.fits.one_more;
    front = e.fits.front;
    taken_after = e.fits.taken_after;
    made_after = e.fits.made_after;
    freed = e.freed;
    end = e.end ∙ (λ i. record {
      made = filter_map made_of K;
      taken = zero_plus (length (filter_map got_of K)) i;
      stamp = gate_stamp 0 (filter_map made_of K) (filter_map got_of K);
    });
  }
    where
      of_two : (d : Deed) → OnItsSide links d.rank d.act → is_index b (box_at d) ≡ true → OfTwo l.from l.to d
      of_two d s p = go d.act s p
        where
          go : (a : Act) → OnItsSide links d.rank a → is_index b (box_for a) ≡ true
              → (IsSending a × (d.rank ≡ l.from)) ⊎ (IsTaking a × (d.rank ≡ l.to))
          go (Act.Ready link part bytes) s p =
              let x = same_link links b link part l s.0 is p s.1 s.2 in
              inl (tt, sym s.3 ∙ ap (λ (y : Link). y.from) (sym x))
          go (Act.Freed link part gate) s p =
              let x = same_link links b link part l s.0 is p s.1 s.2 in
              inl (tt, sym s.3 ∙ ap (λ (y : Link). y.from) (sym x))
          go (Act.Take link part gate bytes) s p =
              let x = same_link links b link part l s.0 is p s.1 s.2 in
              inr (tt, sym s.3 ∙ ap (λ (y : Link). y.to) (sym x))
          go _ s p = absurd (cc)

      two : AllByRecursion (OfTwo l.from l.to) K
      two = All-own (λ (d : Deed). OnItsSide links d.rank d.act) (OfTwo l.from l.to) b of_two ds
          (gather (λ r (d : Deed). OnItsSide links r d.act) ds (λ r. (each r).sides))

      e : FromEmpty 0 K (filter_map got_of K) empty_box new
      e = from_empty K 0 Gate.Unused (filter_map got_of K) empty_box new run refl
          (record {
            used = λ u. absurd (u refl);
            keeps = gate_from l.from l.to differ K Gate.Unused two
                (subst (KeepsGate Gate.Unused) (own_is l.from) ((each l.from).gates b));
            rise = rise_from l.from l.to differ K two
                (subst Rises (own_is l.from)
                (Rises-filter (λ (d : Deed). is_index b (box_at d)) (deeds l.from) (each l.from).rises));
            passed = All-filter (λ (d : Deed). GatePassed d.stamp d.act) (λ (d : Deed). is_index b (box_at d)) ds
                (gather (λ r (d : Deed). GatePassed d.stamp d.act) ds (λ r. (each r).passes));
          })
          (λ t. above_from l.from l.to differ 0 K two
          (subst (AllByRecursion (λ (d : Deed). 0 < d.stamp)) (own_is l.from)
          (All-filter (λ (d : Deed). 0 < d.stamp) (λ (d : Deed). is_index b (box_at d)) (deeds l.from)
          (each l.from).above)))
          (λ k none. absurd (omega (arith, none)))
          (λ j. ap (slice_get (filter_map got_of K)) (zero_plus j))

  some_box : (l : Link) → link_of_box links b ≡ Some l → l.from ≢ l.to → (p : Option Box)
      → PartRunAt BoxMoves (Some empty_box) K p
      → BoxJoinedAt links b deeds (Some empty_box) p
  some_box l is differ (Some new) h = (refl, joined_box l is differ new h)
  some_box l is differ None h = absurd h

  none_box : link_of_box links b ≡ None → (p : Option Box) → PartRunAt BoxMoves None K p → BoxJoinedAt links b deeds None p
  none_box is None h = is
  none_box is (Some new) h = absurd h

  box_joined : ((l : Link) → link_of_box links b ≡ Some l → l.from ≢ l.to) → (p : Option Box)
      → PartRunAt BoxMoves (slice_get (replicate (16 * length links) empty_box) b) K p
      → BoxJoinedAt links b deeds (slice_get (replicate (16 * length links) empty_box) b) p
  box_joined differ p run =
      elim (cases_lt b (16 * length links)) [
        | inl low ↦
            let at : slice_get (replicate (16 * length links) empty_box) b ≡ Some empty_box =
            get-replicate (16 * length links) b empty_box low in
            subst (λ o. BoxJoinedAt links b deeds o p) (sym at)
            (elim (slice_get_cases links (b / 16)).1 [
              | inl c ↦ some_box c.0 c.2 (differ c.0 c.2) p (subst (λ o. PartRunAt BoxMoves o K p) at run)
              | inr c ↦ (let far = c.0 in absurd (omega (arith, far, low)))
            ])
        | inr up ↦
            let at : slice_get (replicate (16 * length links) empty_box) b ≡ None =
            no-replicate (16 * length links) b empty_box up in
            subst (λ o. BoxJoinedAt links b deeds o p) (sym at)
            (none_box (slice_get_past links (b / 16) (omega (arith, up))) p
            (subst (λ o. PartRunAt BoxMoves o K p) at run))
      ]

-- ---- the whole cluster

entry_keeps : (d : Deed) (a : Act) (e : Entry) → entry_for d a ≡ Some e → (e.stamp ≡ d.stamp) × (e.rank ≡ d.rank)
entry_keeps d (Act.Hub clock request reply) e h =
    let entry : Entry =
    record { rank = d.rank; hart = d.hart; clock = clock; stamp = d.stamp; request = request; reply = reply } in
    let same : e ≡ entry = (cc) in
    (ap (λ (x : Entry). x.stamp) same, ap (λ (x : Entry). x.rank) same)
entry_keeps d _ e h = absurd (cc)

-- the ends of an image's links differ
ends_differ : (ranks : ℕ) (links : List Link) → All (IsLink ranks) links → (i : ℕ) (l : Link)
    → slice_get links i ≡ Some l → l.from ≢ l.to
ends_differ ranks [] all i l is = absurd (cc)
ends_differ ranks (x ∷ links) all zero l is =
    let same : x ≡ l = same_Some _ _ is in
    λ e. (subst (IsLink ranks) same (All-head (IsLink ranks) x links all)).differ (sym e)
ends_differ ranks (x ∷ links) all (suc i) l is = ends_differ ranks links (All-tail (IsLink ranks) x links all) i l is

-- the steps of a rank are its deeds'
steps_by : (r : ℕ) (ds : List Deed)
    → map step_of (deeds_of r ds) ≡ of_rank (λ (e : Step). e.rank) r (map step_of ds)
steps_by r [] = refl
steps_by r (d ∷ ds) = go (eqb d.rank r) ∙ ap (λ xs. cond (eqb d.rank r) (step_of d ∷ xs) xs) (steps_by r ds)
  where
    go : (b : Bool)
        → map step_of (cond b (d ∷ deeds_of r ds) (deeds_of r ds))
        ≡ cond b (step_of d ∷ map step_of (deeds_of r ds))
        (map step_of (deeds_of r ds))
    go true = refl
    go false = refl

starts_so : (image : ImageParts) (r : ℕ)
    → (slice_get (loaded_cluster image).ranks r ≡ Some (loaded image r))
    ⊎ (slice_get (loaded_cluster image).ranks r ≡ None)
starts_so image r = elim (starts image image.ranks r) [ inl h ↦ inl h.1 | inr h ↦ inr h.1 ]

pub joined : JoinedLaw
joined image steps final is run =
    let a = apart steps (loaded_cluster image) final run in
    let each =
    λ (r : ℕ).
    facts image r (deeds_of r a.deeds) (slice_get (loaded_cluster image).ranks r)
    (slice_get final.ranks r) (starts_so image r) (a.ranks r) in (
      λ r. deeds_of r a.deeds,
      filter_map entry_of a.deeds,
      record {
        ranks = a.ranks;
        sides = λ r. (each r).sides;
        journal = a.journal;
        calls = λ r.
            picked_of_rank (λ (d : Deed). d.stamp) (λ (d : Deed). d.rank) (λ (e : Entry). e.stamp)
            (λ (e : Entry). e.rank) entry_of
            (λ d e f. (entry_keeps d d.act e f).0) (λ d e f. (entry_keeps d d.act e f).1) r a.deeds;
        boxes = λ b.
            box_joined image.links b a.deeds each (λ l h. ends_differ image.ranks image.links is.links (b / 16) l h)
            (slice_get final.boxes b) (a.boxes b);
      },
      λ r. steps_by r a.deeds ∙ ap (of_rank (λ (e : Step). e.rank) r) a.steps_are,
    )

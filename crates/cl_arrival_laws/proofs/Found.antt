-- The deed that took the k-th thing from a box, and the one that made it ready, each in phase k.
use Rattle.std.specs.Prelude.{ℕ, zero, suc, ◌<◌, List, [], ◌∷◌, ◌++◌, ◌≡◌, Bool, true, false, cond, length, map}
use Rattle.std.specs.List.{slice_get, filter, filter_map, cons_option}
use Rattle.std.specs.Option.{option_map}
use Rattle.std.specs.declared.option.Option.{Option}
use Rattle.std.specs.declared.option.Option.TheVariants.{None, Some}
use Rattle.std.proofs.Common.{refl, sym, ap, ◌∙◌, subst, arith}
use Rattle.std.proofs.lemmas.Bool.{eqb-true}
use Rattle.std.proofs.lemmas.Option.{same_Some, slice_get-map}
use Rattle.rv_image_types.specs.declared.images.ImageParts.{ImageParts}
use Rattle.cl_state.specs.Asked.{asked}
use Rattle.cl_state.specs.Rank.{Rank, loaded}
use Rattle.cl_deeds.specs.Deeds.{Act, Suits, Deed, RankMoves}
use Rattle.cl_deeds.specs.Alone.{IsAlone}
use Rattle.cl_machine.specs.Boxes.{Thing, box_number}
use Rattle.cl_machine.specs.Joined.{Got, got_for, got_of, made_for, made_of, thing_of}
use Rattle.cl_machine.specs.Parts.{is_index, own}
use Rattle.cl_machine.specs.Product.{box_at, box_for}
use Rattle.cl_box_laws.specs.Gates.{MayAsk}
use Rattle.cl_box_laws.proofs.Kept.{questions}
use Rattle.cl_arrival_laws.specs.Arrival.{told_of, IsInPhase, IsMadeIn, IsTakenIn, is_receiving, is_sending}
use Rattle.cl_arrival_laws.specs.Laws.{made_at}
use Rattle.cl_arrival_laws.specs.Laws.{taken_at}
use Rattle.cl_arrival_laws.proofs.Readies.{made}
use Rattle.cl_arrival_laws.proofs.Takes.{taken}
use Rattle.cl_arrival_laws.proofs.Writes.{writes}

-- ---- the k-th that is picked of a list

pub record IsAt {X : Type 0} (p : Deed → Bool) (f : Deed → Option X) (ds : List Deed) (k : ℕ) (x : X) : Type 0 where
  pub before : List Deed
  pub deed : Deed
  pub later : List Deed
  pub there : ds ≡ before ++ deed ∷ later
  pub number : length (filter_map f (filter p before)) ≡ k
  pub passes : p deed ≡ true
  pub gives : f deed ≡ Some x

module _ {X : Type 0} (p : Deed → Bool) (f : Deed → Option X) where
  picks : List Deed → List X
  picks ds = filter_map f (filter p ds)

  count_if : (b : Bool) (o : Option X) (d : Deed) (ds : List Deed) → p d ≡ b → f d ≡ o
      → length (filter_map f (filter p (d ∷ ds)))
      ≡ length (cond b (cons_option o (filter_map f (filter p ds))) (filter_map f (filter p ds)))
  count_if true o d ds e g =
      ap (λ c. length (filter_map f (cond c (d ∷ filter p ds) (filter p ds)))) e
      ∙ ap (λ o. length (cons_option o (filter_map f (filter p ds)))) g
  count_if false o d ds e g = ap (λ c. length (filter_map f (cond c (d ∷ filter p ds) (filter p ds)))) e

  later_on : (d : Deed) (ds : List Deed) (j k : ℕ) (x : X) (h : IsAt p f ds j x)
      → length (filter_map f (filter p (d ∷ h.before))) ≡ k → IsAt p f (d ∷ ds) k x
  later_on d ds j k x h is = record {
    before = d ∷ h.before;
    deed = h.deed;
    later = h.later;
    there = ap (λ xs. d ∷ xs) h.there;
    number = is;
    passes = h.passes;
    gives = h.gives;
  }

  pub at_place : (ds : List Deed) (k : ℕ) (x : X) → slice_get (filter_map f (filter p ds)) k ≡ Some x
      → IsAt p f ds k x
  at_place [] k x e = absurd (cc)
  at_place (d ∷ ds) k x e = go (λ k e. at_place ds k x e) (p d) refl e
    where
      picked : ((k : ℕ) → slice_get (filter_map f (filter p ds)) k ≡ Some x → IsAt p f ds k x)
          → p d ≡ true → (o : Option X) → f d ≡ o → (k : ℕ)
          → slice_get (cons_option o (filter_map f (filter p ds))) k ≡ Some x → IsAt p f (d ∷ ds) k x
      picked rest is None g k e =
          let h = rest k e in later_on d ds k k x h (count_if true None d h.before is g ∙ h.number)
      picked rest is (Some y) g zero e = record {
        before = [];
        deed = d;
        later = ds;
        there = refl;
        number = refl;
        passes = is;
        gives = g ∙ e;
      }
      picked rest is (Some y) g (suc k) e =
          let h = rest k e in
          later_on d ds k (suc k) x h
          (count_if true (Some y) d h.before is g ∙ (let n = h.number in omega (arith, n)))

      go : ((k : ℕ) → slice_get (filter_map f (filter p ds)) k ≡ Some x → IsAt p f ds k x)
          → (b : Bool) → p d ≡ b
          → slice_get (filter_map f (cond b (d ∷ filter p ds) (filter p ds))) k ≡ Some x → IsAt p f (d ∷ ds) k x
      go rest true is e = picked rest is (f d) refl k e
      go rest false is e =
          let h = rest k e in later_on d ds k k x h (count_if false (f d) d h.before is refl ∙ h.number)

-- ---- a run of a rank up to one of its deeds

pub record RunsUpTo (start : Rank) (before : List Deed) (d : Deed) : Type 0 where
  pub rank : Rank
  pub ran : IsAlone start before rank
  pub next : Rank
  pub moves : RankMoves rank d next

pub up_to : (before later : List Deed) (d : Deed) (start end : Rank) → IsAlone start (before ++ d ∷ later) end
    → RunsUpTo start before d
up_to [] later d start end run = record { rank = start; ran = refl; next = run.0; moves = run.1 }
up_to (x ∷ before) later d start end run =
    let rest = up_to before later d run.0 end run.2 in
    record { rank = rest.rank; ran = (run.0, run.1, rest.ran); next = rest.next; moves = rest.moves }

-- ---- what the deed is

take_act : (a : Act) (s b : ℕ) (g : Got) → is_index b (box_for a) ≡ true → got_for s a ≡ Some g
    → (link : ℕ) × (part : ℕ) × (a ≡ Act.Take link part g.stamp g.bytes) × (box_number link part ≡ b)
take_act (Act.Take link part gate bytes) s b g is e =
    let one : record { stamp = gate; bytes = bytes; take = s } ≡ g = same_Some _ _ e in
    (link, part, ap (λ (x : Got). Act.Take link part x.stamp x.bytes) one, eqb-true (box_number link part) b is)
take_act _ s b g is e = absurd (cc)

ready_act : (a : Act) (s b : ℕ) (m : Thing) → is_index b (box_for a) ≡ true → made_for s a ≡ Some m
    → (link : ℕ) × (part : ℕ) × (a ≡ Act.Ready link part m.bytes) × (s ≡ m.stamp) × (box_number link part ≡ b)
ready_act (Act.Ready link part bytes) s b m is e =
    let one : record { stamp = s; bytes = bytes } ≡ m = same_Some _ _ e in (
      link,
      part,
      ap (λ (x : Thing). Act.Ready link part x.bytes) one,
      ap (λ (x : Thing). x.stamp) one,
      eqb-true (box_number link part) b is,
    )
ready_act _ s b m is e = absurd (cc)

link_is : (k part link box : ℕ) → part < 16 → box < 16 → box_number k part ≡ box_number link box → k ≡ link
link_is k part link box low lower e = omega (arith, low, lower, e)

part_is : (k part link box : ℕ) → part < 16 → box < 16 → box_number k part ≡ box_number link box → part ≡ box
part_is k part link box low lower e = let same = link_is k part link box low lower e in omega (arith, e, same)

module _ (image : ImageParts) (r : ℕ) (ds : List Deed) (end : Rank) (run : IsAlone (loaded image r) ds end)
    (link box k : ℕ) (low : box < 16) where
  abbrev b : ℕ
  b = box_number link box

  pub taken_in : (thing : Thing) → slice_get (taken_at b ds) k ≡ Some thing
      → IsTakenIn k (loaded image r) ds link box thing
  taken_in thing e = go (slice_get (filter_map got_of (own box_at b ds)) k) refl
      (sym (slice_get-map thing_of (filter_map got_of (own box_at b ds)) k) ∙ e)
    where
      by_got : (g : Got) → IsAt (λ d. is_index b (box_at d)) got_of ds k g → thing_of g ≡ thing
          → IsTakenIn k (loaded image r) ds link box thing
      by_got g h is =
          let d = h.deed in
          let up = up_to h.before h.later d (loaded image r) end
          (subst (λ xs. IsAlone (loaded image r) xs end) h.there run) in
          let act = take_act d.act d.stamp b g h.passes h.gives in
          let small =
          (subst (MayAsk image.links r h.before) (subst (Suits (asked up.rank d.hart)) act.2 up.moves.2)
          (questions image r h.before up.rank d.hart up.ran)).1 in
          let act_is : d.act ≡ Act.Take link box thing.stamp thing.bytes =
          act.2
          ∙ ((λ i. Act.Take (link_is act.0 act.1 link box small low act.3 i)
          (part_is act.0 act.1 link box small low act.3 i)
          g.stamp g.bytes)
          ∙ ap (λ (t : Thing). Act.Take link box t.stamp t.bytes) is) in
          let phase =
          taken image r h.before up.rank up.next d link box thing.stamp thing.bytes up.ran up.moves act_is in (
            d,
            act_is,
            record {
              before = h.before;
              later = h.later;
              there = h.there;
              rank = up.rank;
              ran = up.ran;
              phase = subst (λ n. IsInPhase (is_receiving link) n (loaded image r) h.before up.rank)
                  (length_map (filter_map got_of (own box_at b h.before)) ∙ h.number) phase;
            },
            writes up.rank (told_of up.rank d) d link box thing.stamp thing.bytes
                (subst (RankMoves up.rank d) up.moves.4 up.moves) act_is,
          )
        where
          length_map : (xs : List Got) → length (map thing_of xs) ≡ length xs
          length_map [] = refl
          length_map (x ∷ xs) = let rest = length_map xs in omega (arith, rest)

      go : (o : Option Got) → slice_get (filter_map got_of (own box_at b ds)) k ≡ o
          → option_map thing_of o ≡ Some thing
          → IsTakenIn k (loaded image r) ds link box thing
      go None is e = absurd (cc)
      go (Some g) is e = by_got g (at_place (λ d. is_index b (box_at d)) got_of ds k g is) (same_Some _ _ e)

  pub made_in : (thing : Thing) → slice_get (made_at b ds) k ≡ Some thing
      → IsMadeIn k (loaded image r) ds link box thing
  made_in thing e =
      let h = at_place (λ d. is_index b (box_at d)) made_of ds k thing e in
      let d = h.deed in
      let up = up_to h.before h.later d (loaded image r) end
      (subst (λ xs. IsAlone (loaded image r) xs end) h.there run) in
      let act = ready_act d.act d.stamp b thing h.passes h.gives in
      let small =
      (subst (MayAsk image.links r h.before) (subst (Suits (asked up.rank d.hart)) act.2 up.moves.2)
      (questions image r h.before up.rank d.hart up.ran)).1 in
      let act_is : d.act ≡ Act.Ready link box thing.bytes =
      act.2
      ∙ (λ i. Act.Ready (link_is act.0 act.1 link box small low act.4 i)
      (part_is act.0 act.1 link box small low act.4 i)
      thing.bytes) in
      let phase = made image r h.before up.rank up.next d link box thing.bytes up.ran up.moves act_is in (
        d,
        act_is,
        act.3,
        record {
          before = h.before;
          later = h.later;
          there = h.there;
          rank = up.rank;
          ran = up.ran;
          phase = subst (λ n. IsInPhase (is_sending link) n (loaded image r) h.before up.rank) h.number phase;
        },
      )

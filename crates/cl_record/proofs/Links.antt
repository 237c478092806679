-- One link more.
use Rattle.std.specs.Prelude.{ℕ, zero, suc, ◌≡◌, ◌≢◌, ◌+◌, ◌==◌, List, [], ◌∷◌, ◌++◌, length, slice_get, slice_set}
use Rattle.std.specs.Prelude.{Bool, true, false, Option, Some, None, if◌then◌else◌}
use Rattle.std.proofs.Common.{refl, sym, ap, ◌∙◌, subst, arith, inl, inr}
use Rattle.std.proofs.lemmas.Bool.{eq-eqb, ne_eqb}
use Rattle.std.proofs.lemmas.Bool.Decides.{eqb_tells}
use Rattle.std.proofs.lemmas.List.{length-append, length-set}
use Rattle.std.proofs.lemmas.Option.{same_Some, slice_get_past}
use Rattle.rv_image_types.specs.declared.images.ImageVersion.{ImageVersion}
use Rattle.rv_image_types.specs.declared.images.Link.{Link}
use Rattle.part_channel.specs.Channels.{ChannelView}
use Rattle.part_channel.specs.Receiving.{RecvView, new_recv_side}
use Rattle.part_channel.specs.Sending.{SendView, new_send_side}
use Rattle.part_phase.specs.Limits.{box_words}
use Rattle.cl_rank.specs.RankSides.{Sides, side_of}
use Rattle.cl_machine.proofs.Lists.{get-set_other, get-set_same}
use Rattle.cl_record.specs.declared.wiring.Ends.{Ends}
use Rattle.cl_record.specs.declared.wiring.Wiring.{Wiring}
use Rattle.cl_record.specs.Wiring.{AreNewEnds, IsNewEnd, IsWired, sides_in}

side_more : {S : Type 0} (sides : List (ℕ × S)) (k link : ℕ) (s : S) → k ≢ link
    → side_of link (sides ++ (k, s) ∷ []) ≡ side_of link sides
side_more [] k link s ne = ap (λ (b : Bool). if b then Some s else None) (ne_eqb k link ne)
side_more (x ∷ sides) k link s ne =
    ap (λ rest. if x.0 == link then Some x.1 else rest) (side_more sides k link s ne)

side_last : {S : Type 0} (sides : List (ℕ × S)) (k : ℕ) (s : S) → side_of k sides ≡ None
    → side_of k (sides ++ (k, s) ∷ []) ≡ Some s
side_last [] k s none = ap (λ (b : Bool). if b then Some s else None) (eq-eqb k k refl)
side_last (x ∷ sides) k s none =
    elim (eqb_tells x.0 k) [
      | inl same ↦ (
          let bad = sym none ∙ ap (λ (b : Bool). if b then Some x.1 else side_of k sides) same.0 in absurd (cc)
          )
      | inr other ↦
          ap (λ (b : Bool). if b then Some x.1 else side_of k (sides ++ (k, s) ∷ [])) other.0
          ∙ side_last sides k s (sym (ap (λ (b : Bool). if b then Some x.1 else side_of k sides) other.0) ∙ none)
    ]

get-more : {X : Type 0} (xs : List X) (x : X) (i : ℕ) → i ≢ length xs → slice_get (xs ++ x ∷ []) i ≡ slice_get xs i
get-more [] x zero ne = absurd (ne refl)
get-more [] x (suc i) ne = refl
get-more (y ∷ xs) x zero ne = refl
get-more (y ∷ xs) x (suc i) ne = get-more xs x i (λ e. ne (ap suc e))

get-last : {X : Type 0} (xs : List X) (x : X) → slice_get (xs ++ x ∷ []) (length xs) ≡ Some x
get-last [] x = refl
get-last (y ∷ xs) x = get-last xs x

none_sends : (version : ImageVersion) (rank : ℕ) (s : Option SendView) (r : Option RecvView)
    → IsNewEnd version rank None None s r → (s ≡ None) × (r ≡ None)
none_sends version rank None None h = (refl, refl)
none_sends version rank (Some s) r h = absurd h
none_sends version rank None (Some r) h = absurd h

-- a rank's ends with a new link behind: a side for it where the rank is one of its two
module _ (version : ImageVersion) (links : List Link) (channels : List ChannelView) (rank : ℕ) (old new : Sides) (l : Link)
    (c : ChannelView) (one_each : length channels ≡ length links) (long : length c.boxes ≡ 16)
    (wide : c.width ≡ box_words version) where
  pub one_more_end : new.sends ≡ (if l.from == rank then old.sends ++ (length links, new_send_side c.boxes) ∷ [] else old.sends)
      → new.recvs ≡ (if l.to == rank then old.recvs ++ (length links, new_recv_side c.boxes) ∷ [] else old.recvs)
      → AreNewEnds version links channels rank old → AreNewEnds version (links ++ l ∷ []) (channels ++ c ∷ []) rank new
  one_more_end sends recvs h link = elim (eqb_tells link (length links)) [
    | inl here ↦
        let k : length links ≡ link = sym here.1 in
        subst (λ n. IsNewEnd version rank (slice_get (links ++ l ∷ []) n) (slice_get (channels ++ c ∷ []) n)
        (side_of n new.sends) (side_of n new.recvs)) k last
    | inr away ↦
        let send = sends_other (l.from == rank) refl link away.1 in
        let recv = recvs_other (l.to == rank) refl link away.1 in
        subst (λ (p : Option Link × Option ChannelView). IsNewEnd version rank p.0 p.1 (side_of link new.sends) (side_of link new.recvs))
        (λ i. (sym (get-more links l link away.1) i, sym (get-more channels c link (λ e. away.1 (e ∙ one_each))) i))
        (subst (λ (p : Option SendView × Option RecvView). IsNewEnd version rank (slice_get links link) (slice_get channels link) p.0 p.1)
        (λ i. (sym send i, sym recv i)) (h link))
  ]
    where
      sends_other : (b : Bool) → (l.from == rank) ≡ b → (link : ℕ) → link ≢ length links
          → side_of link new.sends ≡ side_of link old.sends
      sends_other true e link ne =
          ap (side_of link) (sends
          ∙ ap (λ (b : Bool). if b then old.sends ++ (length links, new_send_side c.boxes) ∷ [] else old.sends) e)
          ∙ side_more old.sends (length links) link (new_send_side c.boxes) (λ x. ne (sym x))
      sends_other false e link ne =
          ap (side_of link) (sends
          ∙ ap (λ (b : Bool). if b then old.sends ++ (length links, new_send_side c.boxes) ∷ [] else old.sends) e)

      recvs_other : (b : Bool) → (l.to == rank) ≡ b → (link : ℕ) → link ≢ length links
          → side_of link new.recvs ≡ side_of link old.recvs
      recvs_other true e link ne =
          ap (side_of link) (recvs
          ∙ ap (λ (b : Bool). if b then old.recvs ++ (length links, new_recv_side c.boxes) ∷ [] else old.recvs) e)
          ∙ side_more old.recvs (length links) link (new_recv_side c.boxes) (λ x. ne (sym x))
      recvs_other false e link ne =
          ap (side_of link) (recvs
          ∙ ap (λ (b : Bool). if b then old.recvs ++ (length links, new_recv_side c.boxes) ∷ [] else old.recvs) e)

      none_yet : (side_of (length links) old.sends ≡ None) × (side_of (length links) old.recvs ≡ None)
      none_yet =
          none_sends version rank _ _
          (subst (λ (p : Option Link × Option ChannelView).
          IsNewEnd version rank p.0 p.1 (side_of (length links) old.sends) (side_of (length links) old.recvs))
          (λ i. (slice_get_past links (length links) (omega arith) i, slice_get_past channels (length links) (omega (arith, one_each)) i))
          (h (length links)))

      sends_last : (b : Bool) → (l.from == rank) ≡ b
          → side_of (length links) new.sends ≡ (if b then Some (new_send_side c.boxes) else None)
      sends_last true e =
          ap (side_of (length links))
          (sends ∙ ap (λ (b : Bool). if b then old.sends ++ (length links, new_send_side c.boxes) ∷ [] else old.sends) e)
          ∙ side_last old.sends (length links) (new_send_side c.boxes) none_yet.0
      sends_last false e =
          ap (side_of (length links))
          (sends ∙ ap (λ (b : Bool). if b then old.sends ++ (length links, new_send_side c.boxes) ∷ [] else old.sends) e)
          ∙ none_yet.0

      recvs_last : (b : Bool) → (l.to == rank) ≡ b
          → side_of (length links) new.recvs ≡ (if b then Some (new_recv_side c.boxes) else None)
      recvs_last true e =
          ap (side_of (length links))
          (recvs ∙ ap (λ (b : Bool). if b then old.recvs ++ (length links, new_recv_side c.boxes) ∷ [] else old.recvs) e)
          ∙ side_last old.recvs (length links) (new_recv_side c.boxes) none_yet.1
      recvs_last false e =
          ap (side_of (length links))
          (recvs ∙ ap (λ (b : Bool). if b then old.recvs ++ (length links, new_recv_side c.boxes) ∷ [] else old.recvs) e)
          ∙ none_yet.1

      last : IsNewEnd version rank (slice_get (links ++ l ∷ []) (length links)) (slice_get (channels ++ c ∷ []) (length links))
          (side_of (length links) new.sends) (side_of (length links) new.recvs)
      last =
          subst (λ (p : Option Link × Option ChannelView).
          IsNewEnd version rank p.0 p.1 (side_of (length links) new.sends) (side_of (length links) new.recvs))
          (λ i. (
            sym (get-last links l) i,
            sym (ap (slice_get (channels ++ c ∷ [])) (sym one_each) ∙ get-last channels c) i,
          ))
          (long, wide, sends_last (l.from == rank) refl, recvs_last (l.to == rank) refl)

-- where there is no link a rank has no ends
pub no_ends : (version : ImageVersion) (channels : List ChannelView) (rank : ℕ) (ends : Ends) → channels ≡ []
    → ends.sends.items ≡ [] → ends.recvs.items ≡ [] → AreNewEnds version [] channels rank (sides_in ends)
no_ends version channels rank ends none no_sends no_recvs link =
    subst (λ cs. IsNewEnd version rank None (slice_get cs link) (side_of link ends.sends.items) (side_of link ends.recvs.items))
    (sym none)
    (subst (λ xs. IsNewEnd version rank None None (side_of link xs) (side_of link ends.recvs.items)) (sym no_sends)
    (subst (λ xs. IsNewEnd version rank None None None (side_of link xs)) (sym no_recvs) tt))

-- one link more of a wiring: its two ranks get a side each
module _ (version : ImageVersion) (links : List Link) (old new : Wiring) (l : Link) (c : ChannelView) (x y z w : Ends)
    (wired : IsWired version (length old.ends.items) links old) (long : length c.boxes ≡ 16)
    (wide : c.width ≡ box_words version) (differ : l.to ≢ l.from)
    (channels : new.channels.items ≡ old.channels.items ++ c ∷ [])
    (at_from : slice_get old.ends.items l.from ≡ Some x) (at_to : slice_get old.ends.items l.to ≡ Some z)
    (ends : new.ends.items ≡ slice_set (slice_set old.ends.items l.from y) l.to w)
    (y_sends : y.sends.items ≡ x.sends.items ++ (length links, new_send_side c.boxes) ∷ []) (y_recvs : y.recvs.items ≡ x.recvs.items)
    (w_sends : w.sends.items ≡ z.sends.items) (w_recvs : w.recvs.items ≡ z.recvs.items ++ (length links, new_recv_side c.boxes) ∷ []) where
  one : length old.channels.items ≡ length links
  one = wired.channels_count

  pub wired_more : IsWired version (length old.ends.items) (links ++ l ∷ []) new
  wired_more = record {
    channels_count = ap length channels ∙ length-append old.channels.items (c ∷ []) ∙ ap (λ n. n + 1) one
        ∙ sym (length-append links (l ∷ []));
    ends_count = ap length ends ∙ length-set (slice_set old.ends.items l.from y) l.to w
        ∙ length-set old.ends.items l.from y;
    each = λ r e at.
        subst (λ cs. AreNewEnds version (links ++ l ∷ []) cs r (sides_in e)) (sym channels)
        (by_rank r e (ap (λ xs. slice_get xs r) (sym ends) ∙ at));
  }
    where
      to_there : slice_get (slice_set old.ends.items l.from y) l.to ≡ Some z
      to_there = get-set_other old.ends.items l.from l.to y (λ e. differ (sym e)) ∙ at_to

      chosen : {X : Type 0} (a b : ℕ) (more same : X) → a ≡ b → more ≡ (if a == b then more else same)
      chosen a b more same e = sym (ap (λ (k : Bool). if k then more else same) (eq-eqb a b e))

      other : {X : Type 0} (a b : ℕ) (more same : X) → a ≢ b → same ≡ (if a == b then more else same)
      other a b more same e = sym (ap (λ (k : Bool). if k then more else same) (ne_eqb a b e))

      by_rank : (r : ℕ) (e : Ends) → slice_get (slice_set (slice_set old.ends.items l.from y) l.to w) r ≡ Some e
          → AreNewEnds version (links ++ l ∷ []) (old.channels.items ++ c ∷ []) r (sides_in e)
      by_rank r e at = elim (eqb_tells l.to r) [
        | inl to_r ↦
            let e_is : w ≡ e = same_Some w e
            (sym (get-set_same (slice_set old.ends.items l.from y) l.to z w to_there)
            ∙ ap (slice_get (slice_set (slice_set old.ends.items l.from y) l.to w)) to_r.1 ∙ at) in
            let ne : l.from ≢ r = λ f. differ (to_r.1 ∙ sym f) in
            subst (λ (k : Ends). AreNewEnds version (links ++ l ∷ []) (old.channels.items ++ c ∷ []) r (sides_in k)) e_is
            (one_more_end version links old.channels.items r (sides_in z) (sides_in w) l c one long wide
            (w_sends ∙ other l.from r _ _ ne) (w_recvs ∙ chosen l.to r _ _ to_r.1)
            (wired.each r z (ap (slice_get old.ends.items) (sym to_r.1) ∙ at_to)))
        | inr to_ne ↦ elim (eqb_tells l.from r) [
          | inl from_r ↦
              let e_is : y ≡ e = same_Some y e
              (sym (get-set_same old.ends.items l.from x y at_from)
              ∙ ap (slice_get (slice_set old.ends.items l.from y)) from_r.1
              ∙ sym (get-set_other (slice_set old.ends.items l.from y) l.to r w to_ne.1) ∙ at) in
              subst (λ (k : Ends). AreNewEnds version (links ++ l ∷ []) (old.channels.items ++ c ∷ []) r (sides_in k)) e_is
              (one_more_end version links old.channels.items r (sides_in x) (sides_in y) l c one long wide
              (y_sends ∙ chosen l.from r _ _ from_r.1) (y_recvs ∙ other l.to r _ _ to_ne.1)
              (wired.each r x (ap (slice_get old.ends.items) (sym from_r.1) ∙ at_from)))
          | inr from_ne ↦
              one_more_end version links old.channels.items r (sides_in e) (sides_in e) l c one long wide
              (other l.from r _ _ from_ne.1) (other l.to r _ _ to_ne.1)
              (wired.each r e
              (sym (get-set_other old.ends.items l.from r y from_ne.1)
              ∙ sym (get-set_other (slice_set old.ends.items l.from y) l.to r w to_ne.1) ∙ at))
        ]
      ]

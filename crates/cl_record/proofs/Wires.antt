-- The ends that ranks have before their first turn.
use Rattle.std.specs.Prelude.{ℕ, zero, suc, ◌≡◌, ◌≢◌, ◌<◌, ◌==◌, List, [], ◌∷◌, length, map}
use Rattle.std.specs.Prelude.{slice_get}
use Rattle.std.specs.Prelude.{Bool, true, false, Option, Some, None, option_map, if◌then◌else◌}
use Rattle.std.proofs.Common.{refl, sym, ap, ◌∙◌, subst, arith, inl, inr}
use Rattle.std.proofs.lemmas.Bool.{eq-eqb}
use Rattle.std.proofs.lemmas.Bool.Decides.{eqb_tells}
use Rattle.std.proofs.lemmas.Option.{same_Some, slice_get-map}
use Rattle.rv_image_types.specs.declared.images.ImageVersion.{ImageVersion}
use Rattle.rv_image_types.specs.declared.images.Link.{Link}
use Rattle.part_box.specs.Keys.{BoxId, new_receiver, new_sender}
use Rattle.part_box.specs.declared.view.Receiving.{Receiving}
use Rattle.part_box.specs.declared.view.Sending.{Sending}
use Rattle.part_box.specs.Steps.{nothing_received, nothing_sent}
use Rattle.part_channel.specs.Channels.{ChannelView, receiver_box, sender_box}
use Rattle.part_channel.specs.Receiving.{RecvView, new_recv_side}
use Rattle.part_channel.specs.Sending.{SendView, new_send_side}
use Rattle.part_phase.specs.Limits.{box_words}
use Rattle.part_phase.specs.Phases.{first_phase}
use Rattle.cl_rank.specs.RankSides.{AreChannelsOf, AreNewSides, HasReceiver, HasSender, PhaseFits, Sides, receiver_key}
use Rattle.cl_rank.specs.RankSides.{receiver_of, sender_key, sender_of, side_of}
use Rattle.cl_record.specs.BoxKeys.{HasKeysOf}
use Rattle.cl_record.specs.Wiring.{AreNewEnds, IsNewEnd}

-- what one end is: of a rank at neither side, at the sender's, or at the receiver's
module _ (version : ImageVersion) (rank : ℕ) where
  -- a rank that has a sender's side of a link is its sender
  pub sends_end : (l : Option Link) (c : Option ChannelView) (send : Option SendView) (recv : Option RecvView) (s : SendView)
      → IsNewEnd version rank l c send recv → send ≡ Some s
      → (link : Link) × (channel : ChannelView) × (l ≡ Some link) × (c ≡ Some channel) × (link.from ≡ rank)
      × (s ≡ new_send_side channel.boxes) × (length channel.boxes ≡ 16) × (channel.width ≡ box_words version)
  sends_end None None None None s h e = absurd (cc)
  sends_end (Some link) (Some channel) send recv s h e =
      elim (eqb_tells link.from rank) [
        | inl same ↦ (
          link,
          channel,
          refl,
          refl,
          same.1,
          same_Some s (new_send_side channel.boxes)
              (sym e ∙ h.2 ∙ ap (λ (b : Bool). if b then Some (new_send_side channel.boxes) else None) same.0),
          h.0,
          h.1,
        )
        | inr other ↦ (
            let no = sym e ∙ h.2 ∙ ap (λ (b : Bool). if b then Some (new_send_side channel.boxes) else None) other.0 in
            absurd (cc)
            )
      ]
  sends_end (Some link) None send recv s h e = absurd h
  sends_end None (Some channel) send recv s h e = absurd h
  sends_end None None (Some x) recv s h e = absurd h
  sends_end None None None (Some x) s h e = absurd h

  pub recvs_end : (l : Option Link) (c : Option ChannelView) (send : Option SendView) (recv : Option RecvView) (r : RecvView)
      → IsNewEnd version rank l c send recv → recv ≡ Some r
      → (link : Link) × (channel : ChannelView) × (l ≡ Some link) × (c ≡ Some channel) × (link.to ≡ rank)
      × (r ≡ new_recv_side channel.boxes) × (length channel.boxes ≡ 16) × (channel.width ≡ box_words version)
  recvs_end None None None None r h e = absurd (cc)
  recvs_end (Some link) (Some channel) send recv r h e =
      elim (eqb_tells link.to rank) [
        | inl same ↦ (
          link,
          channel,
          refl,
          refl,
          same.1,
          same_Some r (new_recv_side channel.boxes)
              (sym e ∙ h.3 ∙ ap (λ (b : Bool). if b then Some (new_recv_side channel.boxes) else None) same.0),
          h.0,
          h.1,
        )
        | inr other ↦ (
            let no = sym e ∙ h.3 ∙ ap (λ (b : Bool). if b then Some (new_recv_side channel.boxes) else None) other.0 in
            absurd (cc)
            )
      ]
  recvs_end (Some link) None send recv r h e = absurd h
  recvs_end None (Some channel) send recv r h e = absurd h
  recvs_end None None (Some x) recv r h e = absurd h
  recvs_end None None None (Some x) r h e = absurd h

  -- its phase says the side that it has
  fits : (l : Option Link) (c : Option ChannelView) (send : Option SendView) (recv : Option RecvView)
      → ((link : Link) → l ≡ Some link → link.to ≢ link.from)
      → IsNewEnd version rank l c send recv → PhaseFits (option_map (first_phase rank) l) send recv
  fits None None None None apart h = tt
  fits (Some link) (Some channel) send recv apart h =
      subst (λ o. PhaseFits (Some (first_phase rank link)) o recv) (sym h.2)
      (subst (λ o. PhaseFits (Some (first_phase rank link)) (if link.from == rank then Some (new_send_side channel.boxes) else None) o)
      (sym h.3) (sides (link.from == rank) (link.to == rank) refl refl))
    where
      sides : (a b : Bool) → (link.from == rank) ≡ a → (link.to == rank) ≡ b
          → PhaseFits (Some (first_phase rank link)) (if link.from == rank then Some (new_send_side channel.boxes) else None)
          (if link.to == rank then Some (new_recv_side channel.boxes) else None)
      sides true true p q =
          absurd (elim (eqb_tells link.from rank) [
            | inl f ↦ elim (eqb_tells link.to rank) [
              | inl t ↦ apart link refl (t.1 ∙ sym f.1)
              | inr t ↦ (let no = sym q ∙ t.0 in absurd (cc))
            ]
            | inr f ↦ (let no = sym p ∙ f.0 in absurd (cc))
          ])
      sides true false p q = simp (p, q) refl
      sides false true p q = simp (p, q) refl
      sides false false p q = simp (p, q) tt
  fits (Some link) None send recv apart h = absurd h
  fits None (Some channel) send recv apart h = absurd h
  fits None None (Some x) recv apart h = absurd h
  fits None None None (Some x) apart h = absurd h

get-same : {X : Type 0} (xs : List X) (i : ℕ) → i < length xs → (x : X) × (slice_get xs i ≡ Some x)
get-same [] i below = absurd (omega (arith, below))
get-same (x ∷ xs) zero below = (x, refl)
get-same (x ∷ xs) (suc i) below = get-same xs i (omega (arith, below))

module _ (version : ImageVersion) (links : List Link) (channels : List ChannelView) (rank : ℕ) (sides : Sides)
    (new : AreNewEnds version links channels rank sides) where
  pub new_sides : ((link : ℕ) (l : Link) → slice_get links link ≡ Some l → l.to ≢ l.from)
      → AreNewSides links rank sides
  new_sides apart = record {
    fit = λ link. subst (λ o. PhaseFits o (side_of link sides.sends) (side_of link sides.recvs))
        (sym (slice_get-map (first_phase rank) links link))
        (fits version rank _ _ _ _ (λ l e. apart link l e) (new link));
    sends = λ link s e. let k = sends_end version rank _ _ _ _ s (new link) e in (k.1.boxes, k.5);
    recvs = λ link r e. let k = recvs_end version rank _ _ _ _ r (new link) e in (k.1.boxes, k.5);
  }

  sender_boxes : (boxes : List BoxId) → map sender_box (map new_sender boxes) ≡ boxes
  sender_boxes [] = refl
  sender_boxes (b ∷ boxes) = ap (λ bs. b ∷ bs) (sender_boxes boxes)

  receiver_boxes : (boxes : List BoxId) → map receiver_box (map new_receiver boxes) ≡ boxes
  receiver_boxes [] = refl
  receiver_boxes (b ∷ boxes) = ap (λ bs. b ∷ bs) (receiver_boxes boxes)

  pub over_channels : AreChannelsOf version channels sides
  over_channels = record {
    sends = λ link s e.
        let k = sends_end version rank _ _ _ _ s (new link) e in
        subst (λ o. HasSender version o s) (sym k.3)
        (k.7, ap (λ (x : SendView). map sender_box x.keys) k.5 ∙ sender_boxes k.1.boxes);
    recvs = λ link r e.
        let k = recvs_end version rank _ _ _ _ r (new link) e in
        subst (λ o. HasReceiver version o r) (sym k.3)
        (k.7, ap (λ (x : RecvView). map receiver_box x.keys) k.5 ∙ receiver_boxes k.1.boxes);
  }

  -- a sender's key of a new side
  sender_there : (boxes : List BoxId) (part : ℕ) (s : Sending) → sender_key (Some (new_send_side boxes)) part ≡ Some s
      → (part < length boxes) × (s ≡ nothing_sent)
  sender_there [] part s e = absurd (cc)
  sender_there (b ∷ boxes) zero s e = (omega arith, sym (same_Some nothing_sent s e))
  sender_there (b ∷ boxes) (suc part) s e =
      let k = sender_there boxes part s e in (omega (arith, k.0), k.1)

  sender_at : (boxes : List BoxId) (part : ℕ) → part < length boxes
      → sender_key (Some (new_send_side boxes)) part ≡ Some nothing_sent
  sender_at [] part below = absurd (omega (arith, below))
  sender_at (b ∷ boxes) zero below = refl
  sender_at (b ∷ boxes) (suc part) below = sender_at boxes part (omega (arith, below))

  receiver_there : (boxes : List BoxId) (part : ℕ) (r : Receiving)
      → receiver_key (Some (new_recv_side boxes)) part ≡ Some r → (part < length boxes) × (r ≡ nothing_received)
  receiver_there [] part r e = absurd (cc)
  receiver_there (b ∷ boxes) zero r e = (omega arith, sym (same_Some nothing_received r e))
  receiver_there (b ∷ boxes) (suc part) r e =
      let k = receiver_there boxes part r e in (omega (arith, k.0), k.1)

  receiver_at : (boxes : List BoxId) (part : ℕ) → part < length boxes
      → receiver_key (Some (new_recv_side boxes)) part ≡ Some nothing_received
  receiver_at [] part below = absurd (omega (arith, below))
  receiver_at (b ∷ boxes) zero below = refl
  receiver_at (b ∷ boxes) (suc part) below = receiver_at boxes part (omega (arith, below))

  some_sends : (o : Option SendView) (part : ℕ) (s : Sending) → sender_key o part ≡ Some s → (x : SendView)
      × (o ≡ Some x)
  some_sends None part s e = absurd (cc)
  some_sends (Some x) part s e = (x, refl)

  some_recvs : (o : Option RecvView) (part : ℕ) (r : Receiving) → receiver_key o part ≡ Some r → (x : RecvView)
      × (o ≡ Some x)
  some_recvs None part r e = absurd (cc)
  some_recvs (Some x) part r e = (x, refl)

  -- whoever is the sender of a link has the sender's side, new
  sends_have : (l : Link) (c : Option ChannelView) (send : Option SendView) (recv : Option RecvView)
      → IsNewEnd version rank (Some l) c send recv → l.from ≡ rank
      → (boxes : List BoxId) × (send ≡ Some (new_send_side boxes)) × (length boxes ≡ 16)
  sends_have l None send recv h e = absurd h
  sends_have l (Some c) send recv h e =
      (c.boxes, h.2 ∙ ap (λ (b : Bool). if b then Some (new_send_side c.boxes) else None) (eq-eqb l.from rank e), h.0)

  recvs_have : (l : Link) (c : Option ChannelView) (send : Option SendView) (recv : Option RecvView)
      → IsNewEnd version rank (Some l) c send recv → l.to ≡ rank
      → (boxes : List BoxId) × (recv ≡ Some (new_recv_side boxes)) × (length boxes ≡ 16)
  recvs_have l None send recv h e = absurd h
  recvs_have l (Some c) send recv h e =
      (c.boxes, h.3 ∙ ap (λ (b : Bool). if b then Some (new_recv_side c.boxes) else None) (eq-eqb l.to rank e), h.0)

  at_link : (link : ℕ) (l : Link) → slice_get links link ≡ Some l
      → IsNewEnd version rank (Some l) (slice_get channels link) (side_of link sides.sends) (side_of link sides.recvs)
  at_link link l at =
      subst (λ o. IsNewEnd version rank o (slice_get channels link) (side_of link sides.sends) (side_of link sides.recvs))
      at (new link)

  -- what a key of the rank is
  own_sender : (link part : ℕ) (s : Sending) → sender_of sides link part ≡ Some s
      → (l : Link) × (slice_get links link ≡ Some l) × (part < 16) × (l.from ≡ rank) × (s ≡ nothing_sent)
  own_sender link part s e =
      let x = some_sends (side_of link sides.sends) part s e in
      let k = sends_end version rank _ _ _ _ x.0 (new link) x.1 in
      let there = sender_there k.1.boxes part s
      (ap (λ o. sender_key o part) (ap Some (sym k.5) ∙ sym x.1) ∙ e) in
      (k.0, k.2, omega (arith, there.0, k.6), k.4, there.1)

  own_receiver : (link part : ℕ) (r : Receiving) → receiver_of sides link part ≡ Some r
      → (l : Link) × (slice_get links link ≡ Some l) × (part < 16) × (l.to ≡ rank) × (r ≡ nothing_received)
  own_receiver link part r e =
      let x = some_recvs (side_of link sides.recvs) part r e in
      let k = recvs_end version rank _ _ _ _ x.0 (new link) x.1 in
      let there = receiver_there k.1.boxes part r
      (ap (λ o. receiver_key o part) (ap Some (sym k.5) ∙ sym x.1) ∙ e) in
      (k.0, k.2, omega (arith, there.0, k.6), k.4, there.1)

  pub new_sender_at : (link part : ℕ) (l : Link) → slice_get links link ≡ Some l → part < 16 → l.from ≡ rank
      → sender_of sides link part ≡ Some nothing_sent
  new_sender_at link part l at low is =
      let k = sends_have l _ _ _ (at_link link l at) is in
      ap (λ o. sender_key o part) k.1 ∙ sender_at k.0 part (omega (arith, low, k.2))

  pub new_receiver_at : (link part : ℕ) (l : Link) → slice_get links link ≡ Some l → part < 16 → l.to ≡ rank
      → receiver_of sides link part ≡ Some nothing_received
  new_receiver_at link part l at low is =
      let k = recvs_have l _ _ _ (at_link link l at) is in
      ap (λ o. receiver_key o part) k.1 ∙ receiver_at k.0 part (omega (arith, low, k.2))

  pub new_keys : HasKeysOf links rank sides
  new_keys = record {
    sends = λ link part l at low is. (nothing_sent, new_sender_at link part l at low is);
    receives = λ link part l at low is. (nothing_received, new_receiver_at link part l at low is);
    sends_own = λ link part s e. let k = own_sender link part s e in (k.0, k.1, k.2, k.3);
    receives_own = λ link part r e. let k = own_receiver link part r e in (k.0, k.1, k.2, k.3);
  }

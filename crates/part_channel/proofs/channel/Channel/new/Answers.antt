-- The keys are new, each in its own box.
use Rattle.std.proofs.Common.{◌≡◌, ◌≤◌, ℕ, ◌+◌, List, [], ◌∷◌, ◌++◌, length, map, sym, ap, ◌∙◌, subst, arith}
use Rattle.std.proofs.Common.{Vec, Global, vec_len}
use Rattle.std.specs.Prelude.{All}
use Rattle.std.proofs.lemmas.List.{map-append, length-map}
use Rattle.std.proofs.lemmas.List.Elements.{All-append, All-cons, All-nil}
use Rattle.part_box.specs.Keys.{BoxId, Place, Sender, new_sender, new_receiver}
use Rattle.part_channel.specs.Channels.{box_of, sender_box, receiver_box}
use Rattle.part_channel.proofs.Sent as sent
use Rattle.part_channel.proofs.Received as received
use Rattle.part_channel.proofs.channel.Channel.new.Goals as goal

-- sixteen boxes, once all are made
sixteen : (boxes : Vec Place Global) (i : ℕ) → vec_len boxes ≡ i → 16 ≤ i → i ≤ 16 → length boxes.items ≡ 16
sixteen boxes i long all most = sym boxes.ok.0 ∙ (long ∙ omega (arith, all, most))

ids_sixteen : (boxes : Vec Place Global) (i : ℕ) → vec_len boxes ≡ i → 16 ≤ i → i ≤ 16
    → length (map box_of boxes.items) ≡ 16
ids_sixteen boxes i long all most = length-map boxes.items box_of ∙ sixteen boxes i long all most

-- one more box, of the width that all have
wide_more : (places more : List Place) (place : Place) (width : ℕ) → more ≡ places ++ place ∷ [] → place.width ≡ width
    → All (λ p. p.width ≡ width) places → All (λ p. p.width ≡ width) more
wide_more places more place width is wide all =
    subst (All (λ (p : Place). p.width ≡ width)) (sym is)
    (All-append (λ (p : Place). p.width ≡ width) places (place ∷ []) all
    (All-cons (λ (p : Place). p.width ≡ width) place [] wide (All-nil (λ (p : Place). p.width ≡ width))))

-- and its new key
keys_more : {K : Type 0} (new : BoxId → K) (places more : List Place) (keys : List K) (place : Place) (key : K)
    → more ≡ places ++ place ∷ [] → key ≡ new place.at → keys ≡ map new (map box_of places)
    → keys ++ key ∷ [] ≡ map new (map box_of more)
keys_more new places more keys place key is here all =
    (λ i. all i ++ here i ∷ [])
    ∙ (sym (map-append new (map box_of places) (place.at ∷ []))
    ∙ ap (map new) (sym (ap (map box_of) is ∙ map-append box_of places (place ∷ []))))

pub loop-i-init : goal.loop-i-init
loop-i-init c = record {
  long = (c.in_ok-boxes.ensures.len, c.in_ok-sends.ensures.len, c.in_ok-recvs.ensures.len);
  room = (c.in_ok-boxes.ensures.capacity, c.in_ok-sends.ensures.capacity, c.in_ok-recvs.ensures.capacity);
  wide =
      subst (All (λ (p : Place). p.width ≡ c.args.width)) (sym c.in_ok-boxes.ensures.items)
      (All-nil (λ (p : Place). p.width ≡ c.args.width));
  sends = c.in_ok-sends.ensures.items ∙ sym (ap (λ l. map new_sender (map box_of l)) c.in_ok-boxes.ensures.items);
  recvs = c.in_ok-recvs.ensures.items ∙ sym (ap (λ l. map new_receiver (map box_of l)) c.in_ok-boxes.ensures.items);
}

pub loop-i-preserved : goal.loop-i-preserved
loop-i-preserved c =
    let all = c.loop-i.invariant in
    let box = c.push_reserved.ensures in
    let send = c.push_reserved-in-loop-i.ensures in
    let recv = c.push_reserved-in-loop-i-2.ensures in
    record {
      long = (
        box.len ∙ ap (λ n. n + 1) all.long.0,
        send.len ∙ ap (λ n. n + 1) all.long.1,
        recv.len ∙ ap (λ n. n + 1) all.long.2,
      );
      room = (omega arith, omega arith, omega arith);
      wide =
          wide_more c.loop-i.boxes.items c.push_reserved.new.self.items c.in_ok-place.place c.args.width box.items
          c.in_ok-place.ensures.wide all.wide;
      sends =
          send.items
          ∙ keys_more new_sender c.loop-i.boxes.items c.push_reserved.new.self.items c.loop-i.sends.items
          c.in_ok-place.place c.in_ok-place.send box.items c.in_ok-place.ensures.sender all.sends;
      recvs =
          recv.items
          ∙ keys_more new_receiver c.loop-i.boxes.items c.push_reserved.new.self.items c.loop-i.recvs.items
          c.in_ok-place.place c.in_ok-place.recv box.items c.in_ok-place.ensures.receiver all.recvs;
    }

pub invariant_of-channel : goal.invariant_of-channel
invariant_of-channel c = record {
  long = sixteen c.loop-i.boxes c.loop-i.i c.loop-i.invariant.long.0 c.loop-i-test.false c.loop-i.auto.i-end;
  wide = c.loop-i.invariant.wide;
  known = c.requires.wide;
}

pub over-requires : goal.over-requires
over-requires c = record {
  new = (
    map box_of c.loop-i.boxes.items,
    ids_sixteen c.loop-i.boxes c.loop-i.i c.loop-i.invariant.long.0 c.loop-i-test.false c.loop-i.auto.i-end,
    c.loop-i.invariant.sends,
  );
}

pub over-requires-2 : goal.over-requires-2
over-requires-2 c = record {
  new = (
    map box_of c.loop-i.boxes.items,
    ids_sixteen c.loop-i.boxes c.loop-i.i c.loop-i.invariant.long.0 c.loop-i-test.false c.loop-i.auto.i-end,
    c.loop-i.invariant.recvs,
  );
}

pub returns-clause-own : goal.returns-clause-own
returns-clause-own c =
    let boxes = map box_of c.loop-i.boxes.items in (
      ap (map sender_box) (c.over.ensures.over.0 ∙ c.loop-i.invariant.sends) ∙ sent.boxes_back boxes,
      ap (map receiver_box) (c.over-2.ensures.over.0 ∙ c.loop-i.invariant.recvs) ∙ received.boxes_back boxes,
    )

pub returns-clause-past : goal.returns-clause-past
returns-clause-past c clock =
    subst (λ (l : List Sender). All (λ key. key.view.front ≤ clock) l)
    (sym (c.over.ensures.over.0 ∙ c.loop-i.invariant.sends)) (sent.new_past (map box_of c.loop-i.boxes.items) clock)

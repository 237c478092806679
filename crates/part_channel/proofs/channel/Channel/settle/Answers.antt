-- The last box that is left is settled with its two keys.
use Rattle.std.proofs.Common.{◌≡◌, ℕ, suc, ◌+◌, ◌-◌, ◌<◌, List, ◌++◌, length, map, set, take, replicate, false, Option}
use Rattle.std.proofs.Common.{Some, refl, sym, ap, ◌∙◌, subst, arith, Vec, Global, vec_len}
use Rattle.std.specs.Prelude.{slice_get, option_to_list}
use Rattle.std.proofs.lemmas.List.{length-map, length-set, length-take-le}
use Rattle.part_box.specs.declared.settled.Settled.{Settled}
use Rattle.part_box.specs.Settling.{IsSettled}
use Rattle.part_box.specs.Keys.{BoxId, Place}
use Rattle.part_channel.specs.Channels.{ChannelView, box_of, sender_box, receiver_box}
use Rattle.part_channel.specs.Settling.{AreSettled}
use Rattle.part_channel.proofs.Sent as sent
use Rattle.part_channel.proofs.Received as received
use Rattle.part_channel.proofs.Leaves.{popped, settled_more, wide_at, whole, none_settled, all_settled, all_left}
use Rattle.part_channel.proofs.channel.Channel.settle.Goals as goal

abbrev nothing : Settled
nothing = record { full = false; stamp = 0; words = replicate 16 0 }

-- an element that was popped off the first so many
popped_at : {A : Type 0} (from xs rest : List A) (o : Option A) (x : A) (i : ℕ) → length from ≡ 16 → i < 16
    → xs ≡ take (16 - i) from → xs ≡ rest ++ option_to_list o → o ≡ Some x
    → (slice_get from (15 - i) ≡ Some x) × (rest ≡ take (15 - i) from)
popped_at from xs rest o x i long low is split some =
    let n : 16 - i ≡ suc (15 - i) = omega (arith, low) in
    popped from rest x (15 - i) (omega (arith, low, long))
    (ap (λ p. rest ++ option_to_list p) (sym some) ∙ (sym split ∙ (is ∙ ap (λ m. take m from) n)))

-- one of the first so many
some_left : {A : Type 0} (v : Vec A Global) (from : List A) (i : ℕ) → length from ≡ 16 → i < 16
    → v.items ≡ take (16 - i) from → 0 < vec_len v
some_left v from i long low is =
    let left : length v.items ≡ 16 - i = ap length is ∙ length-take-le (16 - i) from (omega (arith, long)) in
    let count : vec_len v ≡ length v.items = v.ok.0 in
    omega (arith, count, left, low)

-- as many keys as boxes
as_many : {K : Type 0} (at : K → BoxId) (keys : List K) (places : List Place) (boxes : List BoxId)
    → map box_of places ≡ boxes → map at keys ≡ boxes → length places ≡ 16 → length keys ≡ 16
as_many at keys places boxes here own long =
    sym (length-map keys at) ∙ (ap length (own ∙ sym here) ∙ (length-map places box_of ∙ long))

pub unwrap-place-requires : goal.unwrap-place-requires
unwrap-place-requires c =
    c.pop.ensures.variant.1
    (some_left c.loop-i.boxes c.self.inside.boxes.items c.loop-i.i c.self.invariant.long c.loop-i-test.true
    c.loop-i.invariant.boxes)

pub unwrap-send-requires : goal.unwrap-send-requires
unwrap-send-requires c =
    let boxes = c.self.inside.boxes.items in
    let sends = c.into_keys-sends.result.items in
    let places : map box_of boxes ≡ c.args.self.boxes = ap (λ (v : ChannelView). v.boxes) c.self.view_is in
    let own : map sender_box sends ≡ c.args.self.boxes =
    ap (map sender_box) c.into_keys-sends.ensures ∙ c.requires.sender in
    c.pop-in-loop-i.ensures.variant.1
    (some_left c.loop-i.sends sends c.loop-i.i
    (as_many sender_box sends boxes c.args.self.boxes places own c.self.invariant.long) c.loop-i-test.true
    c.loop-i.invariant.sends)

pub unwrap-recv-requires : goal.unwrap-recv-requires
unwrap-recv-requires c =
    let boxes = c.self.inside.boxes.items in
    let recvs = c.into_keys-recvs.result.items in
    let places : map box_of boxes ≡ c.args.self.boxes = ap (λ (v : ChannelView). v.boxes) c.self.view_is in
    let own : map receiver_box recvs ≡ c.args.self.boxes =
    ap (map receiver_box) c.into_keys-recvs.ensures ∙ c.requires.receiver in
    c.pop-in-loop-i-2.ensures.variant.1
    (some_left c.loop-i.recvs recvs c.loop-i.i
    (as_many receiver_box recvs boxes c.args.self.boxes places own c.self.invariant.long) c.loop-i-test.true
    c.loop-i.invariant.recvs)

pub settle-requires-clause-sender : goal.settle-requires-clause-sender
settle-requires-clause-sender c =
    let boxes = c.self.inside.boxes.items in
    let sends = c.into_keys-sends.result.items in
    let places : map box_of boxes ≡ c.args.self.boxes = ap (λ (v : ChannelView). v.boxes) c.self.view_is in
    let own : map sender_box sends ≡ c.args.self.boxes =
    ap (map sender_box) c.into_keys-sends.ensures ∙ c.requires.sender in
    let long : length sends ≡ 16 =
    as_many sender_box sends boxes c.args.self.boxes places own c.self.invariant.long in
    let b = popped_at boxes c.loop-i.boxes.items c.pop.new.self.items c.pop.result c.unwrap-place.result c.loop-i.i
    c.self.invariant.long c.loop-i-test.true c.loop-i.invariant.boxes c.pop.ensures.items c.unwrap-place.ensures in
    let s = popped_at sends c.loop-i.sends.items c.pop-in-loop-i.new.self.items c.pop-in-loop-i.result
    c.unwrap-send.result c.loop-i.i long c.loop-i-test.true c.loop-i.invariant.sends c.pop-in-loop-i.ensures.items
    c.unwrap-send.ensures in
    sent.own_at sends boxes c.args.self.boxes (15 - c.loop-i.i) c.unwrap-send.result c.unwrap-place.result places own
    s.0 b.0

pub settle-requires-clause-receiver : goal.settle-requires-clause-receiver
settle-requires-clause-receiver c =
    let boxes = c.self.inside.boxes.items in
    let recvs = c.into_keys-recvs.result.items in
    let places : map box_of boxes ≡ c.args.self.boxes = ap (λ (v : ChannelView). v.boxes) c.self.view_is in
    let own : map receiver_box recvs ≡ c.args.self.boxes =
    ap (map receiver_box) c.into_keys-recvs.ensures ∙ c.requires.receiver in
    let long : length recvs ≡ 16 =
    as_many receiver_box recvs boxes c.args.self.boxes places own c.self.invariant.long in
    let b = popped_at boxes c.loop-i.boxes.items c.pop.new.self.items c.pop.result c.unwrap-place.result c.loop-i.i
    c.self.invariant.long c.loop-i-test.true c.loop-i.invariant.boxes c.pop.ensures.items c.unwrap-place.ensures in
    let r = popped_at recvs c.loop-i.recvs.items c.pop-in-loop-i-2.new.self.items c.pop-in-loop-i-2.result
    c.unwrap-recv.result c.loop-i.i long c.loop-i-test.true c.loop-i.invariant.recvs c.pop-in-loop-i-2.ensures.items
    c.unwrap-recv.ensures in
    received.own_at recvs boxes c.args.self.boxes (15 - c.loop-i.i) c.unwrap-recv.result c.unwrap-place.result places
    own r.0 b.0

pub loop-i-preserved : goal.loop-i-preserved
loop-i-preserved c =
    let boxes = c.self.inside.boxes.items in
    let sends = c.into_keys-sends.result.items in
    let recvs = c.into_keys-recvs.result.items in
    let i = c.loop-i.i in
    let places : map box_of boxes ≡ c.args.self.boxes = ap (λ (v : ChannelView). v.boxes) c.self.view_is in
    let count : length c.args.self.boxes ≡ 16 =
    ap length (sym places) ∙ (length-map boxes box_of ∙ c.self.invariant.long) in
    let long_s : length sends ≡ 16 =
    sym (length-map sends sender_box)
    ∙ (ap length (ap (map sender_box) c.into_keys-sends.ensures ∙ c.requires.sender) ∙ count) in
    let long_r : length recvs ≡ 16 =
    sym (length-map recvs receiver_box)
    ∙ (ap length (ap (map receiver_box) c.into_keys-recvs.ensures ∙ c.requires.receiver) ∙ count) in
    let b = popped_at boxes c.loop-i.boxes.items c.pop.new.self.items c.pop.result c.unwrap-place.result i
    c.self.invariant.long c.loop-i-test.true c.loop-i.invariant.boxes c.pop.ensures.items c.unwrap-place.ensures in
    let s = popped_at sends c.loop-i.sends.items c.pop-in-loop-i.new.self.items c.pop-in-loop-i.result
    c.unwrap-send.result i long_s c.loop-i-test.true c.loop-i.invariant.sends c.pop-in-loop-i.ensures.items
    c.unwrap-send.ensures in
    let r = popped_at recvs c.loop-i.recvs.items c.pop-in-loop-i-2.new.self.items c.pop-in-loop-i-2.result
    c.unwrap-recv.result i long_r c.loop-i-test.true c.loop-i.invariant.recvs c.pop-in-loop-i-2.ensures.items
    c.unwrap-recv.ensures in
    let less : 15 - i ≡ 16 - (i + 1) = omega arith in
    let wide : c.unwrap-place.result.width ≡ c.args.self.width =
    wide_at (λ (p : Place). p.width ≡ c.self.inside.width) boxes (15 - i) c.unwrap-place.result
    c.self.invariant.wide b.0 ∙ ap (λ (v : ChannelView). v.width) c.self.view_is in
    let mine =
    subst (λ n. IsSettled n c.unwrap-send.result.view c.unwrap-recv.result.view c.settle.result) wide
    c.settle.ensures.settled in
    record {
      long = length-set c.loop-i.left (15 - i) c.settle.result ∙ c.loop-i.invariant.long;
      boxes = b.1 ∙ ap (λ n. take n boxes) less;
      sends = s.1 ∙ ap (λ n. take n sends) less;
      recvs = r.1 ∙ ap (λ n. take n recvs) less;
      settled =
          subst (λ n. AreSettled c.args.self.width n sends recvs (set c.loop-i.left (15 - i) c.settle.result)) less
          (settled_more c.args.self.width sends recvs c.loop-i.left (15 - i) (16 - i) c.unwrap-send.result
          c.unwrap-recv.result c.settle.result (omega (arith, c.loop-i-test.true)) s.0 r.0 mine
          c.loop-i.invariant.settled);
    }

pub loop-i-init : goal.loop-i-init
loop-i-init c =
    let boxes = c.self.inside.boxes.items in
    let sends = c.into_keys-sends.result.items in
    let recvs = c.into_keys-recvs.result.items in
    let places : map box_of boxes ≡ c.args.self.boxes = ap (λ (v : ChannelView). v.boxes) c.self.view_is in
    let count : length c.args.self.boxes ≡ 16 =
    ap length (sym places) ∙ (length-map boxes box_of ∙ c.self.invariant.long) in
    let long_s : length sends ≡ 16 =
    sym (length-map sends sender_box)
    ∙ (ap length (ap (map sender_box) c.into_keys-sends.ensures ∙ c.requires.sender) ∙ count) in
    let long_r : length recvs ≡ 16 =
    sym (length-map recvs receiver_box)
    ∙ (ap length (ap (map receiver_box) c.into_keys-recvs.ensures ∙ c.requires.receiver) ∙ count) in
    record {
      long = refl;
      boxes = whole boxes 16 c.self.invariant.long;
      sends = whole sends 16 long_s;
      recvs = whole recvs 16 long_r;
      settled = none_settled c.args.self.width sends recvs (replicate 16 nothing) long_s;
    }

pub returns : goal.returns
returns c =
    let none : 16 - c.loop-i.i ≡ 0 = omega arith in
    let boxes = c.self.inside.boxes.items in
    let places : map box_of boxes ≡ c.args.self.boxes = ap (λ (v : ChannelView). v.boxes) c.self.view_is in
    let count : length c.args.self.boxes ≡ 16 =
    ap length (sym places) ∙ (length-map boxes box_of ∙ c.self.invariant.long) in
    let long_s : length c.args.send.keys ≡ 16 =
    sym (length-map c.args.send.keys sender_box) ∙ (ap length c.requires.sender ∙ count) in
    let long_r : length c.args.recv.keys ≡ 16 =
    sym (length-map c.args.recv.keys receiver_box) ∙ (ap length c.requires.receiver ∙ count) in
    record {
      settled =
          all_left c.args.self.width c.args.send.keys c.args.recv.keys c.loop-i.left long_s long_r
          c.loop-i.invariant.long
          (all_settled c.args.self.width (16 - c.loop-i.i) c.into_keys-sends.result.items c.args.send.keys
          c.into_keys-recvs.result.items c.args.recv.keys c.loop-i.left none c.into_keys-sends.ensures
          c.into_keys-recvs.ensures c.loop-i.invariant.settled);
    }

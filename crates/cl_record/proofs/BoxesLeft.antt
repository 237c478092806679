-- What is left in a box of a link, by the box's two keys.
use Rattle.std.specs.Prelude.{ℕ, zero, suc, ◌≡◌, List, [], ◌∷◌, length, map, slice_get, Option, Some, None}
use Rattle.std.proofs.Common.{refl, sym, ap, ◌∙◌, subst, arith}
use Rattle.std.proofs.lemmas.Option.{same_Some, slice_get_within}
use Rattle.rv_image_types.specs.declared.images.Link.{Link}
use Rattle.part_box.specs.declared.settled.Settled.{Settled}
use Rattle.part_box.specs.declared.view.Made.{Made}
use Rattle.part_box.specs.declared.view.Receiving.{Receiving}
use Rattle.part_box.specs.declared.view.Sending.{Sending}
use Rattle.part_box.specs.Keys.{Receiver, Sender}
use Rattle.part_box.specs.Settling.{IsSettled, leftover}
use Rattle.part_channel.specs.Channels.{ChannelView}
use Rattle.part_channel.specs.Receiving.{RecvView}
use Rattle.part_channel.specs.Sending.{SendView}
use Rattle.part_channel.specs.Settling.{got_from, joined, made_in}
use Rattle.cl_rank.specs.RankSides.{receiver_key, receiver_view, sender_key, sender_view, side_of}
use Rattle.cl_record.specs.Settling.{IsAllSettled}
use Rattle.cl_record.specs.declared.wiring.Ends.{Ends}
use Rattle.cl_record.proofs.Elements.{at_below, from_map, to_map}

-- a rank that has the key of a box of a link has a side of the link
pub some_sends : (o : Option SendView) (part : ℕ) (s : Sending) → sender_key o part ≡ Some s
    → (x : SendView) × (o ≡ Some x)
some_sends None part s e = absurd (cc)
some_sends (Some x) part s e = (x, refl)

pub some_recvs : (o : Option RecvView) (part : ℕ) (r : Receiving) → receiver_key o part ≡ Some r
    → (x : RecvView) × (o ≡ Some x)
some_recvs None part r e = absurd (cc)
some_recvs (Some x) part r e = (x, refl)

-- the key of a box among those of a side
sender_in : (x : SendView) (part : ℕ) (s : Sending) → sender_key (Some x) part ≡ Some s
    → (k : Sender) × (slice_get x.keys part ≡ Some k) × (k.view ≡ s)
sender_in x part s e = go (slice_get x.keys part) refl e
  where
    go : (o : Option Sender) → slice_get x.keys part ≡ o → sender_view o ≡ Some s
        → (k : Sender) × (slice_get x.keys part ≡ Some k) × (k.view ≡ s)
    go None at e = absurd (cc)
    go (Some k) at e = (k, at, same_Some k.view s e)

receiver_in : (x : RecvView) (part : ℕ) (r : Receiving) → receiver_key (Some x) part ≡ Some r
    → (k : Receiver) × (slice_get x.keys part ≡ Some k) × (k.view ≡ r)
receiver_in x part r e = go (slice_get x.keys part) refl e
  where
    go : (o : Option Receiver) → slice_get x.keys part ≡ o → receiver_view o ≡ Some r
        → (k : Receiver) × (slice_get x.keys part ≡ Some k) × (k.view ≡ r)
    go None at e = absurd (cc)
    go (Some k) at e = (k, at, same_Some k.view r e)

-- where two lists are joined the second is as long as the first at least
joined_there : (xs ys : List (List Made)) (i : ℕ) (z : List Made) → slice_get (joined xs ys) i ≡ Some z
    → (y : List Made) × (slice_get ys i ≡ Some y)
joined_there [] ys i z e = absurd (cc)
joined_there (x ∷ xs) [] i z e = absurd (cc)
joined_there (x ∷ xs) (y ∷ ys) zero z e = (y, refl)
joined_there (x ∷ xs) (y ∷ ys) (suc i) z e = joined_there xs ys i z e

-- box number `part` of a link is left with what its two keys say
pub record IsLeftIn (channels : List ChannelView) (boxes : List (List Settled)) (link part : ℕ) (s : Sending)
    (r : Receiving) : Type 0 where
  pub channel : ChannelView
  pub channel_there : slice_get channels link ≡ Some channel
  pub settled : List Settled
  pub left : Settled
  pub there : slice_get boxes link ≡ Some settled
  pub place : slice_get settled part ≡ Some left
  pub is : IsSettled channel.width s r left

module _ (links : List Link) (channels : List ChannelView) (ends : List Ends) (boxes : List (List Settled))
    (all : IsAllSettled links channels ends boxes) (one_each : length channels ≡ length links) where
  pub left_in : (link part : ℕ) (l : Link) (from to : Ends) (s : Sending) (r : Receiving)
      → slice_get links link ≡ Some l → slice_get ends l.from ≡ Some from → slice_get ends l.to ≡ Some to
      → sender_key (side_of link from.sends.items) part ≡ Some s
      → receiver_key (side_of link to.recvs.items) part ≡ Some r → IsLeftIn channels boxes link part s r
  left_in link part l from to s r at at_from at_to sends receives =
      let inside = slice_get_within links link l at in
      let channel = at_below channels link (omega (arith, inside, one_each)) in
      let left = at_below boxes link (let e = all.count in omega (arith, inside, e)) in
      let k = all.each link channel.0 left.0 channel.1 left.1 in
      let sides = k.0 in
      let l_is : sides.l ≡ l = same_Some sides.l l (sym sides.link_there ∙ at) in
      let from_is : sides.from ≡ from =
      same_Some sides.from from (sym sides.from_there ∙ ap (λ (x : Link). slice_get ends x.from) l_is ∙ at_from) in
      let to_is : sides.to ≡ to =
      same_Some sides.to to (sym sides.to_there ∙ ap (λ (x : Link). slice_get ends x.to) l_is ∙ at_to) in
      let sender = sender_in sides.sends part s
      (ap (λ o. sender_key o part) (sym sides.sends_are ∙ ap (λ (e : Ends). side_of link e.sends.items) from_is)
      ∙ sends) in
      let receiver = receiver_in sides.receives part r
      (ap (λ o. receiver_key o part) (sym sides.receives_are ∙ ap (λ (e : Ends). side_of link e.recvs.items) to_is)
      ∙ receives) in
      let width = channel.0.width in
      let made = joined_there (map got_from sides.receives.keys) (map (leftover width) left.0) part (made_in sender.0)
      (ap (λ xs. slice_get xs part) (sym k.1.made) ∙ to_map made_in sides.sends.keys part sender.0 sender.1) in
      let box = from_map (leftover width) left.0 part made.0 made.1 in
      let settled = k.1.each part sender.0 receiver.0 box.0 (omega arith) sender.1 receiver.1 box.1 in
      record {
        channel = channel.0;
        channel_there = channel.1;
        settled = left.0;
        left = box.0;
        there = left.1;
        place = box.1;
        is = subst (λ z. IsSettled width s z box.0) receiver.2
            (subst (λ z. IsSettled width z (receiver.0).view box.0) sender.2 settled);
      }

-- The two sides of a box, of the two ranks of its link.
use Rattle.std.proofs.Common.{◌≡◌, ℕ, zero, suc, ◌<◌, List, [], ◌∷◌, length, map, set, get_or, Option, Some, None, refl, sym, ap, subst, ◌∙◌, arith}
use Rattle.std.specs.Prelude.{slice_get}
use Rattle.rv_image_types.specs.declared.images.ImageVersion.{ImageVersion}
use Rattle.part_box.specs.declared.view.Receiving.{Receiving}
use Rattle.part_box.specs.declared.view.Sending.{Sending}
use Rattle.part_box.specs.Keys.{Receiver, Sender}
use Rattle.part_box.specs.Rule.{GateRule}
use Rattle.part_channel.specs.Channels.{ChannelView, receiver_box, sender_box}
use Rattle.part_channel.specs.Receiving.{RecvView}
use Rattle.part_channel.specs.Sending.{SendView}
use Rattle.part_phase.specs.Limits.{box_words}
use Rattle.cl_sides.specs.Sides.{AreChannelsOf, HasReceiver, HasSender, receiver_key, receiver_view, sender_key}
use Rattle.cl_sides.specs.Sides.{sender_view, side_of, sides_in}
use Rattle.cl_sides.specs.Steps.{IsPlace}
use Rattle.cl_sides.proofs.Lists.{placed}

module _ {A : Type 0} where
  none_some : (s : A) → None ≡ Some s → ⊥
  none_some s h = cc

  same_some : (s t : A) → Some s ≡ Some t → s ≡ t
  same_some s t h = cc

  pub length_at : (xs : List A) (i : ℕ) (x : A) → slice_get xs i ≡ Some x → i < length xs
  length_at [] i x h = absurd (none_some x h)
  length_at (y ∷ ys) zero x h = omega arith
  length_at (y ∷ ys) (suc i) x h = let low : i < length ys = length_at ys i x h in omega (arith, low)

  read : (xs : List A) (i : ℕ) (x y : A) → slice_get xs i ≡ Some y → get_or xs i x ≡ y
  read [] i x y h = absurd (none_some y h)
  read (z ∷ zs) zero x y h = same_some z y h
  read (z ∷ zs) (suc i) x y h = read zs i x y h

  put_back : (xs : List A) (i : ℕ) (x : A) → slice_get xs i ≡ Some x → set xs i x ≡ xs
  put_back [] i x h = refl
  put_back (y ∷ ys) zero x h = ap (λ z. z ∷ ys) (sym (same_some y x h))
  put_back (y ∷ ys) (suc i) x h = ap (λ l. y ∷ l) (put_back ys i x h)

module _ {S : Type 0} where
  -- a side that is put back at its place changes nothing
  pub back_again : (link : ℕ) (xs : List (ℕ × S)) (i : ℕ) (x : ℕ × S) (new : S) → IsPlace link xs (Some i)
      → x ≡ get_or xs i x → new ≡ x.1 → set xs i (x.0, new) ≡ xs
  back_again link xs i x new place is same =
      ap (λ s. set xs i (x.0, s)) same
      ∙ put_back xs i x (place.1 ∙ ap Some (sym (is ∙ read xs i x (link, place.0) place.1)))

  pub no_side : (link : ℕ) (xs : List (ℕ × S)) (s : S) → side_of link xs ≡ Some s → IsPlace link xs None → ⊥
  no_side link xs s there none = none_some s (sym none ∙ there)

  pub at_side : (link : ℕ) (xs : List (ℕ × S)) (i : ℕ) (x : ℕ × S) → IsPlace link xs (Some i) → x ≡ get_or xs i x
      → side_of link xs ≡ Some x.1
  at_side link xs i x place is = (placed link xs i x place is).0

-- a rank that has the sender's key of a box has the side of its link
pub sender_here : (o : Option SendView) (part : ℕ) (s : Sending) → sender_key o part ≡ Some s
    → (side : SendView) × (o ≡ Some side) × (key : Sender) × (slice_get side.keys part ≡ Some key) × (key.view ≡ s)
sender_here None part s h = absurd (none_some s h)
sender_here (Some side) part s h = go (slice_get side.keys part) refl h
  where
    go : (k : Option Sender) → slice_get side.keys part ≡ k → sender_key (Some side) part ≡ Some s
        → (it : SendView) × (Some side ≡ Some it) × (key : Sender) × (slice_get it.keys part ≡ Some key) × (key.view ≡ s)
    go None e h = absurd (none_some s (subst (λ k. sender_view k ≡ Some s) e h))
    go (Some key) e h = (side, refl, key, e, same_some key.view s (subst (λ k. sender_view k ≡ Some s) e h))

-- a box of which there is a key
pub part_there : (o : Option SendView) (part : ℕ) (x : SendView) (s : Sending) → sender_key o part ≡ Some s → o ≡ Some x
    → length x.keys ≡ 16 → part < 16
part_there o part x s h is long =
    let here = sender_here o part s h in
    let same : here.0 ≡ x = same_some here.0 x (sym here.1 ∙ is) in
    let low : part < length x.keys =
    length_at x.keys part here.2 (subst (λ (z : SendView). slice_get z.keys part ≡ Some here.2) same here.3) in
    omega (arith, low, long)

pub receiver_here : (o : Option RecvView) (part : ℕ) (r : Receiving) → receiver_key o part ≡ Some r
    → (side : RecvView) × (o ≡ Some side) × (key : Receiver) × (slice_get side.keys part ≡ Some key) × (key.view ≡ r)
receiver_here None part r h = absurd (none_some r h)
receiver_here (Some side) part r h = go (slice_get side.keys part) refl h
  where
    go : (k : Option Receiver) → slice_get side.keys part ≡ k → receiver_key (Some side) part ≡ Some r
        → (it : RecvView) × (Some side ≡ Some it) × (key : Receiver) × (slice_get it.keys part ≡ Some key) × (key.view ≡ r)
    go None e h = absurd (none_some r (subst (λ k. receiver_view k ≡ Some r) e h))
    go (Some key) e h = (side, refl, key, e, same_some key.view r (subst (λ k. receiver_view k ≡ Some r) e h))

-- the channel of a link is that of both its sides
module _ (v : ImageVersion) (channels : List ChannelView) (link : ℕ) where
  sender_joined : (o : Option ChannelView) (s : SendView) → slice_get channels link ≡ o → HasSender v o s
      → (c : ChannelView) × (slice_get channels link ≡ Some c) × (c.width ≡ box_words v) × (map sender_box s.keys ≡ c.boxes)
  sender_joined None s at has = absurd has
  sender_joined (Some c) s at has = (c, at, has.0, has.1)

  pub sender_channel : (sends : List (ℕ × SendView)) (recvs : List (ℕ × RecvView)) (s : SendView)
      → AreChannelsOf v channels (sides_in sends recvs) → side_of link sends ≡ Some s
      → (c : ChannelView) × (slice_get channels link ≡ Some c) × (c.width ≡ box_words v) × (map sender_box s.keys ≡ c.boxes)
  sender_channel sends recvs s own there = sender_joined (slice_get channels link) s refl (own.sends link s there)

  receiver_joined : (o : Option ChannelView) (r : RecvView) → slice_get channels link ≡ o → HasReceiver v o r
      → (c : ChannelView) × (slice_get channels link ≡ Some c) × (map receiver_box r.keys ≡ c.boxes)
  receiver_joined None r at has = absurd has
  receiver_joined (Some c) r at has = (c, at, has.1)

  pub receiver_channel : (sends : List (ℕ × SendView)) (recvs : List (ℕ × RecvView)) (r : RecvView)
      → AreChannelsOf v channels (sides_in sends recvs) → side_of link recvs ≡ Some r
      → (c : ChannelView) × (slice_get channels link ≡ Some c) × (map receiver_box r.keys ≡ c.boxes)
  receiver_channel sends recvs r own there = receiver_joined (slice_get channels link) r refl (own.recvs link r there)

  same_channel : (c : ChannelView) (k : ChannelView) → k ≡ get_or channels link k → slice_get channels link ≡ Some c → c ≡ k
  same_channel c k is at = sym (is ∙ read channels link k c at)

  pub sender_boxes : (sends : List (ℕ × SendView)) (recvs : List (ℕ × RecvView)) (s : SendView) (k : ChannelView)
      → AreChannelsOf v channels (sides_in sends recvs) → side_of link sends ≡ Some s → k ≡ get_or channels link k
      → map sender_box s.keys ≡ k.boxes
  sender_boxes sends recvs s k own there is =
      let joined = sender_channel sends recvs s own there in
      joined.3 ∙ ap (λ (c : ChannelView). c.boxes) (same_channel joined.0 k is joined.1)

  pub receiver_boxes : (sends : List (ℕ × SendView)) (recvs : List (ℕ × RecvView)) (r : RecvView) (k : ChannelView)
      → AreChannelsOf v channels (sides_in sends recvs) → side_of link recvs ≡ Some r → k ≡ get_or channels link k
      → map receiver_box r.keys ≡ k.boxes
  receiver_boxes sends recvs r k own there is =
      let joined = receiver_channel sends recvs r own there in
      joined.2 ∙ ap (λ (c : ChannelView). c.boxes) (same_channel joined.0 k is joined.1)

  pub channel_there : (sends : List (ℕ × SendView)) (recvs : List (ℕ × RecvView)) (s : SendView)
      → AreChannelsOf v channels (sides_in sends recvs) → side_of link sends ≡ Some s → link < length channels
  channel_there sends recvs s own there =
      let joined = sender_channel sends recvs s own there in length_at channels link joined.0 joined.1

  -- what the channel tells of the two keys
  pub agreed_so : (part : ℕ) (channel : ChannelView) (x : SendView) (y : RecvView) (sends : List (ℕ × SendView))
      (others : List (ℕ × RecvView)) (recvs : List (ℕ × RecvView)) → AreChannelsOf v channels (sides_in sends others)
      → channel ≡ get_or channels link channel → side_of link sends ≡ Some x → side_of link recvs ≡ Some y
      → ((s : Sender) (r : Receiver) → slice_get x.keys part ≡ Some s → slice_get y.keys part ≡ Some r
      → (words : List ℕ) × GateRule channel.width words s.view r.view)
      → (s : Sending) (r : Receiving) → sender_key (side_of link sends) part ≡ Some s
      → receiver_key (side_of link recvs) part ≡ Some r
      → (words : List ℕ) × GateRule (box_words v) words s r
  agreed_so part channel x y sends others recvs own is at_x at_y told s r at_s at_r =
      let here = sender_here (side_of link sends) part s at_s in
      let there = receiver_here (side_of link recvs) part r at_r in
      let same_x : here.0 ≡ x = same_some here.0 x (sym here.1 ∙ at_x) in
      let same_y : there.0 ≡ y = same_some there.0 y (sym there.1 ∙ at_y) in
      let joined = sender_channel sends others x own at_x in
      let width : channel.width ≡ box_words v =
      ap (λ (c : ChannelView). c.width) (sym (same_channel joined.0 channel is joined.1)) ∙ joined.2 in
      let all = told here.2 there.2 (subst (λ (z : SendView). slice_get z.keys part ≡ Some here.2) same_x here.3)
      (subst (λ (z : RecvView). slice_get z.keys part ≡ Some there.2) same_y there.3) in (
        all.0,
        subst (λ n. GateRule n all.0 s r) width
            (subst (λ z. GateRule channel.width all.0 z r) here.4
            (subst (λ z. GateRule channel.width all.0 here.2.view z) there.4 all.1)),
      )

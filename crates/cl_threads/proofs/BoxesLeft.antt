-- What is left in a box, by the keys that its link's two ranks went on with.
use Rattle.std.specs.Prelude.{ℕ, ◌≡◌, ◌<◌, List, length, map, slice_get, Some, All}
use Rattle.std.proofs.Common.{refl, subst, arith}
use Rattle.rv_image_types.specs.declared.images.ImageParts.{ImageParts}
use Rattle.rv_image_types.specs.declared.images.ImageVersion.{ImageVersion}
use Rattle.rv_image_types.specs.declared.images.Link.{Link}
use Rattle.rv_image_types.specs.Image.{IsLink}
use Rattle.part_box.specs.declared.settled.Settled.{Settled}
use Rattle.part_box.specs.declared.view.Receiving.{Receiving}
use Rattle.part_box.specs.declared.view.Sending.{Sending}
use Rattle.part_box.specs.Settling.{IsSettled}
use Rattle.part_box.specs.Steps.{nothing_received, nothing_sent}
use Rattle.part_channel.specs.Channels.{ChannelView}
use Rattle.part_phase.specs.Limits.{box_words}
use Rattle.cl_rank.specs.RankSides.{Sides, receiver_of, sender_of, side_of}
use Rattle.cl_rank.specs.Views.{view_of}
use Rattle.cl_record.specs.Leaving.{ends_of}
use Rattle.cl_record.specs.Settling.{IsAllSettled}
use Rattle.cl_record.specs.Wiring.{AreNewEnds, IsNewEnd}
use Rattle.cl_record.specs.declared.done.Done.{Done}
use Rattle.cl_record.specs.declared.plans.Plan.{Plan}
use Rattle.cl_record.proofs.BoxesLeft.{left_in}
use Rattle.cl_record.proofs.Elements.{at_below, link_at, to_map}
use Rattle.cl_record.proofs.Wires.{new_receiver_at, new_sender_at}
use Rattle.cl_threads.specs.Runs.{IsBoxOf, ReceiverWent, SenderWent}
use Rattle.cl_threads.proofs.KeyRuns.{receiver_goes, sender_goes}
use Rattle.cl_threads.proofs.RanksJoined.{AllWent}

-- the width of a link's channel
width_of : (version : ImageVersion) (links : List Link) (channels : List ChannelView) (r : ℕ) (sides : Sides) (link : ℕ)
    (l : Link) (channel : ChannelView) → AreNewEnds version links channels r sides → slice_get links link ≡ Some l
    → slice_get channels link ≡ Some channel → channel.width ≡ box_words version
width_of version links channels r sides link l channel new at at_channel =
    (subst (λ o. IsNewEnd version r (Some l) o (side_of link sides.sends) (side_of link sides.recvs)) at_channel
    (subst (λ o. IsNewEnd version r o (slice_get channels link) (side_of link sides.sends) (side_of link sides.recvs)) at
    (new link))).1

module _ (image : ImageParts) (channels : List ChannelView) (plans : List Plan) (all : List Done)
    (ran : AllWent image channels plans all) where
  -- the sender's key of a box as its rank left it, and the receiver's
  sender_left : (link part : ℕ) (l : Link) (done : Done) → slice_get image.links link ≡ Some l → part < 16
      → slice_get all l.from ≡ Some done
      → (s : Sending) × (sender_of (view_of done.rank).sides link part ≡ Some s)
      × SenderWent image.version link part (ran.deeds l.from) s
  sender_left link part l done at low at_done =
      let w = (ran.each l.from done at_done).2 in
      sender_goes image.version link part (ran.deeds l.from) w.first (view_of done.rank).sides nothing_sent w.keys
      (new_sender_at image.version image.links channels l.from w.first w.new link part l at low refl)

  receiver_left : (link part : ℕ) (l : Link) (done : Done) → slice_get image.links link ≡ Some l → part < 16
      → slice_get all l.to ≡ Some done
      → (r : Receiving) × (receiver_of (view_of done.rank).sides link part ≡ Some r)
      × ReceiverWent image.version link part (ran.deeds l.to) r
  receiver_left link part l done at low at_done =
      let w = (ran.each l.to done at_done).2 in
      receiver_goes image.version link part (ran.deeds l.to) w.first (view_of done.rank).sides nothing_received w.keys
      (new_receiver_at image.version image.links channels l.to w.first w.new link part l at low refl)

  -- the channel of a link that two ranks were loaded with has the width of the image's version
  width_is : (link : ℕ) (l : Link) (channel : ChannelView) (from : Done) → slice_get image.links link ≡ Some l
      → slice_get channels link ≡ Some channel → slice_get all l.from ≡ Some from
      → channel.width ≡ box_words image.version
  width_is link l channel from at at_channel at_from =
      let w = (ran.each l.from from at_from).2 in
      width_of image.version image.links channels l.from w.first link l channel w.new at at_channel

  -- what is left in a box of a link
  pub record BoxLeft (boxes : List (List Settled)) (link part : ℕ) (l : Link) : Type 0 where
    pub settled : List Settled
    pub left : Settled
    pub there : slice_get boxes link ≡ Some settled
    pub place : slice_get settled part ≡ Some left
    pub is : IsBoxOf image.version ran.deeds link part l left

  pub box_left : (boxes : List (List Settled)) → IsAllSettled image.links channels (map ends_of all) boxes
      → length channels ≡ length image.links → All (IsLink image.ranks) image.links → (link part : ℕ) (l : Link)
      → slice_get image.links link ≡ Some l → part < 16 → BoxLeft boxes link part l
  box_left boxes settled one_each joined link part l at low =
      let joins = link_at image.ranks image.links link l joined at in
      let from = at_below all l.from (let e = ran.count in omega (arith, joins.from_there, e)) in
      let to = at_below all l.to (let e = ran.count in omega (arith, joins.to_there, e)) in
      let s = sender_left link part l from.0 at low from.1 in
      let r = receiver_left link part l to.0 at low to.1 in
      let k = left_in image.links channels (map ends_of all) boxes settled one_each link part l (ends_of from.0)
      (ends_of to.0) s.0 r.0 at (to_map ends_of all l.from from.0 from.1) (to_map ends_of all l.to to.0 to.1) s.1 r.1 in
      record {
        settled = k.settled;
        left = k.left;
        there = k.there;
        place = k.place;
        is = record {
          sender = s.0;
          receiver = r.0;
          sent = s.2;
          received = r.2;
          settled = subst (λ n. IsSettled n s.0 r.0 k.left)
              (width_is link l k.channel from.0 at k.channel_there from.1) k.is;
        };
      }

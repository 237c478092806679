-- The sides that threads left may be settled.
use Rattle.std.specs.Prelude.{ℕ, zero, suc, ◌≡◌, List, [], ◌∷◌, length, map, slice_get, Some}
use Rattle.std.proofs.Common.{refl, subst, arith}
use Rattle.std.proofs.lemmas.Option.{same_Some, slice_get_within}
use Rattle.rv_image_types.specs.declared.images.ImageParts.{ImageParts}
use Rattle.rv_image_types.specs.declared.images.Link.{Link}
use Rattle.part_channel.specs.Channels.{ChannelView}
use Rattle.part_channel.specs.Receiving.{RecvView}
use Rattle.part_channel.specs.Sending.{SendView}
use Rattle.cl_rank.specs.RankSides.{AreChannelsOf, HasReceiver, HasSender, side_of}
use Rattle.cl_rank.specs.Views.{view_of}
use Rattle.cl_record.proofs.BoxesLeft.{some_recvs, some_sends}
use Rattle.cl_record.proofs.Elements.{at_below, link_at, to_map}
use Rattle.cl_record.proofs.Wires.{new_keys}
use Rattle.cl_record.specs.Settling.{MaySettle}
use Rattle.cl_record.specs.Plans.{HasPlans}
use Rattle.cl_record.specs.declared.plans.Plan.{Plan}
use Rattle.cl_record.specs.declared.seats.Seat.{Seat}
use Rattle.cl_threads.proofs.KeyRuns.{receiver_goes, sender_goes}
use Rattle.cl_threads.proofs.RanksJoined.{AllWent, all_went, cuts_of}
use Rattle.cl_threads.specs.OnThreads.{AreDone}
use Rattle.cl_record.specs.Leaving.{ends_of}
use Rattle.cl_threads.specs.Loading.{IsCluster}
use Rattle.cl_threads.specs.declared.loading.Cluster.{Cluster}
use Rattle.cl_threads.specs.declared.until.Until.{Until}
use Rattle.cl_record.specs.declared.done.Done.{Done}

-- the sides that a thread left are over the channels
over_at : (until : Until) (channels : List ChannelView) (seats : List Seat) (all : List Done)
    → AreDone until channels seats all → (r : ℕ)
    (done : Done) → slice_get all r ≡ Some done
    → AreChannelsOf (view_of done.rank).rank.site.version channels (view_of done.rank).sides
over_at until channels [] [] are r done at = absurd (cc)
over_at until channels (seat ∷ seats) (d ∷ all) are zero done at =
    subst (λ (x : Done). AreChannelsOf (view_of x.rank).rank.site.version channels (view_of x.rank).sides)
    (same_Some d done at) are.0.over
over_at until channels (seat ∷ seats) (d ∷ all) are (suc r) done at = over_at until channels seats all are.1 r done at
over_at until channels [] (d ∷ all) are r done at = absurd are
over_at until channels (seat ∷ seats) [] are r done at = absurd are

module _ (until : Until) (image : ImageParts) (plans : List Plan) (cluster : Cluster) (all : List Done)
    (has : HasPlans image plans) (is : IsCluster image plans cluster)
    (are : AreDone until cluster.channels.items cluster.seats.items all) where
  channels : List ChannelView
  channels = cluster.channels.items

  ran : AllWent image channels (cuts_of until cluster.channels.items cluster.seats.items all are) all
  unfolding channels
  ran = all_went until cluster.channels.items image plans cluster.seats.items all are is.count has is.plans_are is.loaded

  -- the side that a link's sender left, and the receiver's
  record SenderHas (link : ℕ) (l : Link) (channel : ChannelView) : Type 0 where
    from : Done
    from_there : slice_get all l.from ≡ Some from
    sends : SendView
    sends_are : side_of link from.rank.sends.items ≡ Some sends
    own : HasSender (view_of from.rank).rank.site.version (Some channel) sends

  record ReceiverHas (link : ℕ) (l : Link) (channel : ChannelView) : Type 0 where
    to : Done
    to_there : slice_get all l.to ≡ Some to
    receives : RecvView
    receives_are : side_of link to.rank.recvs.items ≡ Some receives
    own : HasReceiver (view_of to.rank).rank.site.version (Some channel) receives

  sender_has : (link : ℕ) (l : Link) (channel : ChannelView) → slice_get image.links link ≡ Some l
      → slice_get channels link ≡ Some channel → SenderHas link l channel
  unfolding channels ran
  sender_has link l channel at there =
      let joins = link_at image.ranks image.links link l is.joined at in
      let from = at_below all l.from (omega (arith, joins.from_there, ran.count)) in
      let went = (ran.each l.from from.0 from.1).2 in
      let keys = new_keys image.version image.links cluster.channels.items l.from went.first went.new in
      let key = keys.sends link 0 l at (omega arith) refl in
      let later = sender_goes image.version link 0 (ran.deeds l.from) went.first (view_of from.0.rank).sides key.0
      went.keys key.1 in
      let side = some_sends (side_of link from.0.rank.sends.items) 0 later.0 later.1 in
      let over = over_at until cluster.channels.items cluster.seats.items all are l.from from.0 from.1 in
      record {
        from = from.0;
        from_there = from.1;
        sends = side.0;
        sends_are = side.1;
        own = subst (λ o. HasSender (view_of from.0.rank).rank.site.version o side.0) there (over.sends link side.0 side.1);
      }

  receiver_has : (link : ℕ) (l : Link) (channel : ChannelView) → slice_get image.links link ≡ Some l
      → slice_get channels link ≡ Some channel → ReceiverHas link l channel
  unfolding channels ran
  receiver_has link l channel at there =
      let joins = link_at image.ranks image.links link l is.joined at in
      let to = at_below all l.to (omega (arith, joins.to_there, ran.count)) in
      let went = (ran.each l.to to.0 to.1).2 in
      let keys = new_keys image.version image.links cluster.channels.items l.to went.first went.new in
      let key = keys.receives link 0 l at (omega arith) refl in
      let later = receiver_goes image.version link 0 (ran.deeds l.to) went.first (view_of to.0.rank).sides key.0
      went.keys key.1 in
      let side = some_recvs (side_of link to.0.rank.recvs.items) 0 later.0 later.1 in
      let over = over_at until cluster.channels.items cluster.seats.items all are l.to to.0 to.1 in
      record {
        to = to.0;
        to_there = to.1;
        receives = side.0;
        receives_are = side.1;
        own = subst (λ o. HasReceiver (view_of to.0.rank).rank.site.version o side.0) there
            (over.recvs link side.0 side.1);
      }

  pub may_settle : MaySettle image.links cluster.channels.items (map ends_of all)
  unfolding channels
  may_settle = record {
    few = is.few_links;
    one_each = is.one_each;
    sides = λ link channel at.
        let l = at_below image.links link
        (omega (arith, slice_get_within cluster.channels.items link channel at, is.one_each)) in
        let from = sender_has link l.0 channel l.1 at in
        let to = receiver_has link l.0 channel l.1 at in
        record {
          l = l.0;
          link_there = l.1;
          from = ends_of from.from;
          to = ends_of to.to;
          from_there = to_map ends_of all l.0.from from.from from.from_there;
          to_there = to_map ends_of all l.0.to to.to to.to_there;
          sends = from.sends;
          receives = to.receives;
          sends_are = from.sends_are;
          receives_are = to.receives_are;
          sends_own = from.own.1;
          receives_own = to.own.1;
        };
  }

  -- as many as there are ranks
  pub count : length all ≡ image.ranks
  unfolding channels ran
  count = ran.count

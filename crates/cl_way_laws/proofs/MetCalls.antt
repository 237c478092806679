-- A call on the way of a rank that does the same once all has arrived.
use Rattle.std.proofs.Common.{◌≡◌, ◌∙◌, ℕ, ◌⊎◌, inl, inr, sym, ap, subst, Bool, true, false, List, Option, Some}
use Rattle.std.specs.List.{slice_get, slice_set}
use Rattle.rv_image_types.specs.declared.images.ImageParts.{ImageParts}
use Rattle.mp_types.specs.declared.replies.Reply.{Reply}
use Rattle.mp_types.specs.declared.replies.Reply.TheVariants as reply
use Rattle.mp_types.specs.declared.requests.Request.{Request}
use Rattle.mp_types.specs.declared.requests.Request.TheVariants as request
use Rattle.mp_probe.specs.Claims.{next_number}
use Rattle.mp_way_laws.specs.Way.{WayView, all_arrived}
use Rattle.mp_way_laws.specs.Runs.{NamesSource}
use Rattle.mp_way_laws.specs.Answers.{IsSameHub, behind, behind_at_once, reply_at_once, reply_on_way}
use Rattle.cl_state.specs.declared.asking.Answer.TheVariants as answer
use Rattle.cl_state.specs.declared.asking.Ask.{Ask}
use Rattle.cl_state.specs.Asked.{asked, doing, part_of}
use Rattle.cl_state.specs.Rank.{Rank}
use Rattle.cl_state.specs.Told.{told}
use Rattle.cl_state_laws.specs.Vain.{waits_on}
use Rattle.cl_machine.specs.Cluster.{Cluster}
use Rattle.cl_order_laws.proofs.SureAlone.{IsLive, has_hart}
use Rattle.cl_schedule_laws.specs.Machines.{Machine}
use Rattle.cl_reduction_laws.specs.Below.{Turn}
use Rattle.cl_reduction_laws.specs.Clusters.{IsWithin, Search, State, cluster_machine}
use Rattle.cl_delay_laws.specs.Networks.{IsTurn, in_vain, same, waits}
use Rattle.cl_way_laws.specs.Clusters.{IsArrived, WayCluster, called_on_way}
use Rattle.cl_way_laws.specs.Met.{is_met, met}
use Rattle.cl_contests.specs.Waiting.{OnlyWaits}
use Rattle.cl_way_laws.proofs.Asking.{GoesAs, at_once, completes, posts, stays}
use Rattle.cl_way_laws.proofs.AtHub.{IsLeft, Leaves, after, completes_leaves, goes, leads, named, posts_leaves, ready, same_leaves, same_near, send_leads, send_ready, turn, vain_leaves, vain_so}
use Rattle.cl_way_laws.proofs.MetAsks.{DoesSame, asks_met, doing_met}
use Rattle.cl_way_laws.proofs.MetRanks.{opens_then, ranks_behind, there_met, told_met, waits_met}
use Rattle.cl_way_laws.proofs.Near.{IsNear, near_alike}
use Rattle.cl_way_laws.proofs.Posting.{PostsAs, lines_behind, lines_now, met_then, posts_as, unmet, unmet_receive}
use Rattle.cl_way_laws.proofs.States.{Behind, WayState}
use Rattle.cl_way_laws.proofs.SyncSends.{IsSsend, LeavesRequest, SendsNow, ssend_or_leaves, sync_of}

pub alike_of : (search : Search) (a b : State search) → IsNear a.cluster b.cluster → (cluster_machine search).Alike a b
alike_of search a b near = near_alike search.wild a.cluster b.cluster (a.good).boxes near

module _ (search : Search) (image : ImageParts) (waits_only : OnlyWaits search) (a : WayState search image) (r : ℕ)
    (x : Rank) (q : Request) (stamp : ℕ) (there : slice_get a.now.ranks r ≡ Some x)
    (asks : asked x (search.harts r) ≡ Ask.Hub q) (within : IsWithin search a.state.cluster r)
    (same_does : DoesSame (is_met (lines_now a.now.way) x.site.number) x.memory x.requests
    (doing x.site (part_of x (search.harts r)))) where
  abbrev hart : ℕ
  hart = search.harts r

  abbrev c : Cluster
  c = a.state.cluster

  abbrev w : WayView
  w = a.now.way

  abbrev new : WayCluster
  new = called_on_way a.now r hart x q stamp

  -- the rank once all has arrived
  abbrev y : Rank
  y = met (lines_now w) x

  here : slice_get c.ranks r ≡ Some y
  here = there_met search image a r x there

  asks_y : asked y hart ≡ Ask.Hub q
  asks_y = asks_met (is_met (lines_now w) x.site.number) x hart same_does ∙ asks

  pub call_named : NamesSource q
  call_named = named search image waits_only a r y q stamp here asks_y within

  made : PostsAs w r q
  made = posts_as w r q call_named

  it_goes : GoesAs w r (waits_on (doing y.site (part_of y hart))) q
  it_goes = goes search image waits_only a r y q stamp here asks_y within

  -- ---- told this on the way, it is told that once all has arrived

  abbrev IsTold : Reply → Type 0
  IsTold z =
      met (lines_behind w r q) (told x hart (answer.Reply (reply_on_way w r q)) stamp)
      ≡ told y hart (answer.Reply z) stamp

  left : (z : Reply) → IsTold z → (d : Cluster) → IsArrived new d → IsLeft c w r hart y q stamp z d
  left z is d two = record {
    ranks = two.ranks
        ∙ ranks_behind search image a r q made (told x hart (answer.Reply (reply_on_way w r q)) stamp)
        ∙ ap (slice_set c.ranks r) is;
    boxes = two.boxes ∙ sym a.arrived.boxes;
    hub = two.hub;
  }

  arrives_so : (z : Reply) → IsTold z → Leaves search image waits_only a r y q stamp here asks_y within z
      → Behind search new
  arrives_so z is leaves = record {
    cluster = leaves.0;
    arrived = record {
      ranks = leaves.1.ranks
          ∙ sym (ranks_behind search image a r q made (told x hart (answer.Reply (reply_on_way w r q)) stamp)
          ∙ ap (slice_set c.ranks r) is);
      boxes = leaves.1.boxes ∙ a.arrived.boxes;
      hub = leaves.1.hub;
    };
    good = leaves.2;
  }

  told_as : (z : Reply) → reply_on_way w r q ≡ z
      → ((n : ℕ) (b : Bool) → reply_on_way w r q ≡ reply.Posted n b → is_met (lines_behind w r q) r n ≡ false)
      → IsTold z
  told_as z is none =
      told_met search image a r x there q made hart stamp (reply_on_way w r q) same_does none
      ∙ ap (λ z. told y hart (answer.Reply z) stamp) is

  told_none : reply_on_way w r q ≡ reply.NotYet → IsTold reply.NotYet
  told_none none = told_as reply.NotYet none (λ n b is. never n b (sym none ∙ is))
    where
      never : (n : ℕ) (b : Bool) → reply.NotYet ≡ reply.Posted n b → is_met (lines_behind w r q) r n ≡ false
      never n b e = absurd (cc)

  told_at_once : reply_on_way w r q ≡ reply_at_once w r q → IsTold (reply_at_once w r q)
  told_at_once is = told_as (reply_at_once w r q) is (unmet w r q made is)

  told_posted : (comm : ℕ) (source tag : Option ℕ) → q ≡ request.Recv true comm source tag
      → reply_on_way w r q ≡ reply.Posted (next_number w.hub.board) false
      → IsTold (reply.Posted (next_number w.hub.board) false)
  told_posted comm source tag is posted =
      told_as (reply.Posted (next_number w.hub.board) false) posted
      (unmet_receive w r q made true comm source tag is)

  -- ---- a synchronous send

  module _ (comm dest tag : ℕ) (bytes : List ℕ) (is : q ≡ request.Send true comm dest tag bytes)
      (posted : reply_on_way w r q ≡ reply.Posted (next_number w.hub.board) false)
      (done : reply_at_once w r q ≡ reply.Posted (next_number w.hub.board) true) where
    sends_now : SendsNow (asked x hart)
    sends_now = subst SendsNow (sym (asks ∙ ap (λ p. Ask.Hub p) is)) tt

    which : IsSsend (doing x.site (part_of x hart)) ⊎ LeavesRequest (doing x.site (part_of x hart))
    which = ssend_or_leaves (doing x.site (part_of x hart)) (sync_of x hart sends_now)

    ssend_y : IsSsend (doing x.site (part_of x hart)) → IsSsend (doing y.site (part_of y hart))
    ssend_y ssend = subst IsSsend (sym (doing_met (is_met (lines_now w) x.site.number) x.site (part_of x hart))) ssend

    told_waits : IsSsend (doing x.site (part_of x hart)) → IsTold (reply.Posted (next_number w.hub.board) false)
    told_waits ssend =
        ap (λ z. met (lines_behind w r q) (told x hart (answer.Reply z) stamp)) posted
        ∙ waits_met search image a r x there q made hart (has_hart x hart (subst IsLive (sym asks) tt)) asks ssend asks_y
        (ssend_y ssend) (next_number w.hub.board) stamp

    told_leaves : LeavesRequest (doing x.site (part_of x hart)) → IsTold (reply_at_once w r q)
    told_leaves leaves =
        ap (λ z. met (lines_behind w r q) (told x hart (answer.Reply z) stamp)) posted
        ∙ opens_then search image a r x there q made hart leaves sends_now (next_number w.hub.board) stamp
        (met_then w r q made comm dest tag bytes is (next_number w.hub.board) posted done)
        ∙ ap (λ z. told y hart (answer.Reply z) stamp) (sym done)

  -- ---- as a turn of the machine

  abbrev machine : Machine
  machine = cluster_machine search

  abbrev k : State search
  k = after search image waits_only a r y q stamp here asks_y within

  k_turn : Turn r hart c k.cluster
  k_turn = turn search image waits_only a r y q stamp here asks_y within

  same_so : (b : State search) → IsArrived new b.cluster → IsTold (reply_at_once w r q)
      → IsSameHub (all_arrived (behind w r q)) (behind_at_once w r q) → IsTurn machine r a.state b
  same_so b two told_so hub =
      same k k_turn (alike_of search k b
      (same_near search image waits_only a r y q stamp here asks_y within hub b.cluster
      (left (reply_at_once w r q) told_so b.cluster two)))

  pub call_goes : (b : State search) → IsArrived new b.cluster → IsTurn machine r a.state b
  call_goes b two = go it_goes
    where
      go : GoesAs w r (waits_on (doing y.site (part_of y hart))) q → IsTurn machine r a.state b
      go (stays on_is none still) =
          in_vain (alike_of search a.state b
          (vain_so search image waits_only a r y q stamp here asks_y within on_is still b.cluster
          (left reply.NotYet (told_none none) b.cluster two)))
      go (at_once is hub) = same_so b two (told_at_once is) hub
      go (posts comm source tag m is posted got collects hub) =
          let l = left (reply.Posted (next_number w.hub.board) false) (told_posted comm source tag is posted) b.cluster two in
          waits k k_turn
          (ready search image waits_only a r y q stamp here asks_y within comm source tag m is posted got collects hub
          b.cluster l)
          (λ last poll. alike_of search last k
          (leads search image waits_only a r y q stamp here asks_y within comm source tag m is posted got collects hub
          b.cluster l last.cluster poll))
      go (completes comm dest tag bytes is posted done hub) = elim (which comm dest tag bytes is posted done) [
        | inl ssend ↦
            let l = left (reply.Posted (next_number w.hub.board) false)
            (told_waits comm dest tag bytes is posted done ssend) b.cluster two in
            let s = ssend_y comm dest tag bytes is posted done ssend in
            waits k k_turn
            (send_ready search image waits_only a r y q stamp here asks_y within comm dest tag bytes is posted done hub s
            b.cluster l)
            (λ last poll. alike_of search last k
            (send_leads search image waits_only a r y q stamp here asks_y within comm dest tag bytes is posted done hub s
            b.cluster l last.cluster poll))
        | inr leaves ↦ same_so b two (told_leaves comm dest tag bytes is posted done leaves) hub
      ]

  pub call_behind : Behind search new
  call_behind = go it_goes
    where
      go : GoesAs w r (waits_on (doing y.site (part_of y hart))) q → Behind search new
      go (stays on_is none still) =
          arrives_so reply.NotYet (told_none none)
          (vain_leaves search image waits_only a r y q stamp here asks_y within on_is still)
      go (at_once is hub) =
          arrives_so (reply_at_once w r q) (told_at_once is)
          (same_leaves search image waits_only a r y q stamp here asks_y within hub)
      go (posts comm source tag m is posted got collects hub) =
          arrives_so (reply.Posted (next_number w.hub.board) false) (told_posted comm source tag is posted)
          (posts_leaves search image waits_only a r y q stamp here asks_y within comm source tag m is posted got collects
          hub)
      go (completes comm dest tag bytes is posted done hub) = elim (which comm dest tag bytes is posted done) [
        | inl ssend ↦
            arrives_so (reply.Posted (next_number w.hub.board) false)
            (told_waits comm dest tag bytes is posted done ssend)
            (completes_leaves search image waits_only a r y q stamp here asks_y within comm dest tag bytes is posted done
            hub (ssend_y comm dest tag bytes is posted done ssend))
        | inr leaves ↦
            arrives_so (reply_at_once w r q) (told_leaves comm dest tag bytes is posted done leaves)
            (same_leaves search image waits_only a r y q stamp here asks_y within hub)
      ]

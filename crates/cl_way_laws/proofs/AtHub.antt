-- A call on the way, as a turn of the machine on which messages arrive at once.
use Rattle.std.proofs.Common.{◌≡◌, ◌∙◌, ℕ, ◌+◌, ◌<◌, refl, sym, ap, subst, Bool, true, false, List, length, Option, Some}
use Rattle.std.specs.List.{slice_get, slice_set}
use Rattle.std.proofs.lemmas.Option.{same_Some}
use Rattle.rv_image_types.specs.declared.images.ImageParts.{ImageParts}
use Rattle.rv_hart.specs.declared.state.Mode.TheVariants.{Waiting}
use Rattle.rv_hart.specs.declared.state.Wait.TheVariants.{Post}
use Rattle.mp_types.specs.declared.messages.Message.{Message}
use Rattle.mp_types.specs.declared.replies.Reply.{Reply}
use Rattle.mp_types.specs.declared.replies.Reply.TheVariants as reply
use Rattle.mp_types.specs.declared.requests.Request.{Request}
use Rattle.mp_types.specs.declared.requests.Request.TheVariants as request
use Rattle.mp_match.specs.PostPairs.{pairs, posts_of}
use Rattle.mp_match.proofs.OrderKept.{posts_pairs}
use Rattle.mp_probe.specs.Claims.{next_number}
use Rattle.mp_hub.specs.Hub.{HubView, outcome}
use Rattle.mp_wait_laws.proofs.Waits.{laid_after}
use Rattle.mp_source_laws.specs.Laws.{AsksWithin}
use Rattle.mp_clash_laws.specs.Exchanges.{WaitsWithin}
use Rattle.mp_way_laws.specs.Way.{WayView, all_arrived, lines_of}
use Rattle.mp_way_laws.specs.Runs.{NamesSource}
use Rattle.mp_way_laws.specs.Answers.{IsSameHub, IsToldAs, behind, behind_at_once, in_vain, reply_at_once, reply_on_way, same, synchronous, waits}
use Rattle.mp_way_laws.proofs.Answers.{answer_law}
use Rattle.mp_way_laws.proofs.Joined.{posts_length}
use Rattle.cl_journal.specs.Journal.{calls_of}
use Rattle.cl_journal.specs.declared.entries.Entry.{Entry}
use Rattle.cl_state.specs.declared.asking.Answer.TheVariants as answer
use Rattle.cl_state.specs.declared.asking.Ask.{Ask}
use Rattle.cl_state.specs.Asked.{asked, doing, part_of}
use Rattle.cl_state.specs.Rank.{Rank}
use Rattle.cl_state.specs.Told.{told}
use Rattle.cl_state_laws.specs.Awake.{StandsAtCall}
use Rattle.cl_state_laws.specs.Vain.{mode_of, waits_on}
use Rattle.cl_state_laws.proofs.Wakes.{wake_law}
use Rattle.cl_post_laws.proofs.Later.{later, polls, waits as waits_for_post}
use Rattle.cl_machine.specs.Cluster.{Cluster}
use Rattle.cl_machine.specs.Journal.{with_entry}
use Rattle.cl_order_laws.specs.Alike.{hub_of}
use Rattle.cl_order_laws.specs.SureAsks.{IsReady}
use Rattle.cl_order_laws.proofs.Each.{set_here, set_set}
use Rattle.cl_order_laws.proofs.SureAlone.{IsLive, has_hart}
use Rattle.cl_order_laws.proofs.SureHub.{reply_is}
use Rattle.cl_order_laws.proofs.Walks.{hub_entry}
use Rattle.cl_first_laws.specs.Below.{TellsOnly}
use Rattle.cl_first_laws.proofs.Exchanges.{Called, call_of, next, turn_of}
use Rattle.cl_reduction_laws.specs.Below.{AskWithin, Turn}
use Rattle.cl_reduction_laws.specs.Clusters.{IsGood, IsReadyPoll, IsWithin, NamesRightly, Search, State, may_be_awaited, weight_in}
use Rattle.cl_reduction_laws.specs.Complete.{PollWithin}
use Rattle.cl_reduction_laws.specs.Patterns.{IsAllowed, pattern_of, pattern_of_ask, pattern_of_request}
use Rattle.cl_reduction_laws.proofs.Complete.{waits_within}
use Rattle.cl_reduction_laws.proofs.First.{polls_on}
use Rattle.cl_reduction_laws.proofs.Good.{IsListed, IsTold, good_after, grows_after, tells_named, waits_after}
use Rattle.cl_reduction_laws.proofs.Naming.{rightly_more, rightly_told}
use Rattle.cl_contest_laws.proofs.Good.{good_alike}
use Rattle.cl_contests.specs.Waiting.{OnlyWaits}
use Rattle.cl_way_laws.proofs.Asking.{GoesAs, goes_as, names_source, not_posted}
use Rattle.cl_way_laws.proofs.Complete.{asked_still, complete_still}
use Rattle.cl_way_laws.proofs.LaterSend.{later as send_later, polls as send_polls, waits as send_waits}
use Rattle.cl_way_laws.proofs.Near.{AreNear, IsNear, near_alike, told_near, vain_near}
use Rattle.cl_way_laws.proofs.Received.{posted_as}
use Rattle.cl_way_laws.proofs.SameHubs.{same_call, same_hub_back, same_hub_is, same_hub_on}
use Rattle.cl_way_laws.proofs.States.{WayState, each_in}
use Rattle.cl_way_laws.proofs.SyncSends.{IsSsend}

-- a cluster in which all has arrived behind a call, and in which the rank was told this
pub record IsLeft (c : Cluster) (w : WayView) (r hart : ℕ) (rank : Rank) (q : Request) (stamp : ℕ) (x : Reply)
    (d : Cluster) : Type 0 where
  pub ranks : d.ranks ≡ slice_set c.ranks r (told rank hart (answer.Reply x) stamp)
  pub boxes : d.boxes ≡ c.boxes
  pub hub : IsSameHub (hub_of d.journal) (all_arrived (behind w r q))

module _ (search : Search) (image : ImageParts) (waits_only : OnlyWaits search)
    (a : WayState search image) (r : ℕ) (rank : Rank) (q : Request) (stamp : ℕ)
    (here : slice_get a.state.cluster.ranks r ≡ Some rank)
    (asks : asked rank (search.harts r) ≡ Ask.Hub q) (within : IsWithin search a.state.cluster r) where
  abbrev hart : ℕ
  hart = search.harts r

  abbrev c : Cluster
  c = a.state.cluster

  abbrev h : HubView
  h = hub_of c.journal

  abbrev w : WayView
  w = a.now.way

  abbrev on : Bool
  on = waits_on (doing rank.site (part_of rank hart))

  may : IsAllowed search.patterns r (pattern_of_request on q)
  may = subst (λ k. IsAllowed search.patterns r (pattern_of_ask on k)) asks (within rank here).0

  asks_within : AsksWithin search.wild r q
  asks_within = subst (AskWithin search.wild r) asks (within rank here).1

  pub named : NamesSource q
  named = names_source search waits_only r on q may asks_within

  pub goes : GoesAs w r on q
  goes = goes_as search waits_only w r on q may (answer_law image.links w a.came r q named)

  -- ---- the turn of the machine

  abbrev then : Cluster
  then = next c r hart rank q

  pub turn : Turn r hart c then
  turn = turn_of c r hart rank q here asks

  called : Called r hart c then rank q
  called = call_of r hart c then rank q here asks turn

  abbrev pub after : State search
  after = record { cluster = then; good = good_after search r c then rank here a.state.good within turn }

  -- the hub answers as the one at which all has arrived
  at_hub : (p : Request)
      → ((outcome (all_arrived w) r p).0 ≡ (outcome h r p).0)
      × IsSameHub (outcome h r p).1 (outcome (all_arrived w) r p).1
  at_hub p = same_call h (all_arrived w) r p a.arrived.hub

  hub_then : IsSameHub (hub_of then.journal) (behind_at_once w r q)
  hub_then = subst (λ k. IsSameHub k (behind_at_once w r q)) (sym called.hubs) (at_hub q).1

  abbrev told_so : Reply → ℕ → List Rank
  told_so x s = slice_set c.ranks r (told rank hart (answer.Reply x) s)

  ranks_then : then.ranks ≡ told_so (reply_at_once w r q) called.stamp
  ranks_then =
      called.ranks
      ∙ ap (λ x. slice_set c.ranks r (told rank hart (answer.Reply x) called.stamp)) (sym (at_hub q).0)

  -- whatever the rank is told, each that is to make its call anew stands at it
  stands_then : (x : Reply) (s : ℕ) (y : Rank) → slice_get (told_so x stamp) s ≡ Some y
      → StandsAtCall y (search.harts s)
  stands_then x =
      each_in (λ s y. StandsAtCall y (search.harts s)) c.ranks r (told rank hart (answer.Reply x) stamp)
      ((wake_law.stands) rank hart stamp (answer.Reply x) ((a.state.good).stands r rank here) tt)
      (λ s y at. (a.state.good).stands s y at)

  -- where all has arrived, the rank was told this
  abbrev Left : Reply → Cluster → Type 0
  Left x d = IsLeft c w r hart rank q stamp x d

  abbrev pub Leaves : Reply → Type 0
  Leaves x = (d : Cluster) × Left x d × IsGood search d

  -- what is alike is good, too
  leaves_alike : (k : State search) (x : Reply) (d : Cluster) → Left x d → IsNear k.cluster d → Leaves x
  leaves_alike k x d left near = (
    d,
    left,
    good_alike search k.cluster d (near_alike search.wild k.cluster d (k.good).boxes near) k.good
        (λ s y at. stands_then x s y (ap (λ xs. slice_get xs s) (sym left.ranks) ∙ at)),
  )

  -- ---- it is told the same

  module _ (hub : IsSameHub (all_arrived (behind w r q)) (behind_at_once w r q)) where
    pub same_near : (d : Cluster) → Left (reply_at_once w r q) d → IsNear then d
    same_near d two = record {
      ranks = subst (λ xs. AreNear xs d.ranks) (sym ranks_then)
          (subst (AreNear (told_so (reply_at_once w r q) called.stamp)) (sym two.ranks)
          (told_near c.ranks r hart rank (answer.Reply (reply_at_once w r q)) called.stamp stamp));
      hub = same_hub_on (hub_of then.journal) (behind_at_once w r q) (hub_of d.journal) hub_then
          (same_hub_on (behind_at_once w r q) (all_arrived (behind w r q)) (hub_of d.journal)
          (same_hub_back (all_arrived (behind w r q)) (behind_at_once w r q) hub)
          (same_hub_back (hub_of d.journal) (all_arrived (behind w r q)) two.hub));
      boxes = two.boxes ∙ sym called.boxes;
    }

    pub same_leaves : Leaves (reply_at_once w r q)
    same_leaves =
        let x = reply_at_once w r q in
        let d : Cluster = record { ranks = told_so x stamp; journal = then.journal; boxes = c.boxes } in
        let two : Left x d = record {
          ranks = refl;
          boxes = refl;
          hub = same_hub_on (hub_of then.journal) (behind_at_once w r q) (all_arrived (behind w r q)) hub_then
              (same_hub_back (all_arrived (behind w r q)) (behind_at_once w r q) hub);
        } in
        leaves_alike after x d two (same_near d two)

  -- ---- nothing is there yet, and it waits

  module _ (on_is : on ≡ true) (still : behind w r q ≡ w) where
    pub vain_so : (d : Cluster) → Left reply.NotYet d → IsNear c d
    vain_so d two = record {
      ranks = subst (AreNear c.ranks) (sym two.ranks) (vain_near c.ranks r hart rank q stamp here on_is asks);
      hub = same_hub_on h (all_arrived w) (hub_of d.journal) a.arrived.hub
          (same_hub_on (all_arrived w) (all_arrived (behind w r q)) (hub_of d.journal)
          (same_hub_is (all_arrived w) (all_arrived (behind w r q)) (ap all_arrived still))
          (same_hub_back (hub_of d.journal) (all_arrived (behind w r q)) two.hub));
      boxes = two.boxes;
    }

    pub vain_leaves : Leaves reply.NotYet
    vain_leaves =
        let d : Cluster = record { ranks = told_so reply.NotYet stamp; journal = c.journal; boxes = c.boxes } in
        let two : Left reply.NotYet d = record {
          ranks = refl;
          boxes = refl;
          hub = subst (λ v. IsSameHub h (all_arrived v)) (sym still) a.arrived.hub;
        } in
        leaves_alike a.state reply.NotYet d two (vain_so d two)

  -- ---- it posts the receive of a message on its way, and waits

  module _ (comm : ℕ) (source tag : Option ℕ) (m : Message) (is : q ≡ request.Recv true comm source tag)
      (posted : reply_on_way w r q ≡ reply.Posted (next_number w.hub.board) false)
      (got : reply_at_once w r q ≡ reply.Got m)
      (collects : reply_at_once (behind w r q) r (request.Collect (next_number w.hub.board)) ≡ reply.Got m)
      (hub : IsSameHub (behind_at_once (behind w r q) r (request.Collect (next_number w.hub.board)))
      (behind_at_once w r q)) where
    abbrev n : ℕ
    n = next_number w.hub.board

    abbrev poster : Rank
    poster = told rank hart (answer.Reply (reply.Posted n false)) stamp

    inside : hart < length rank.harts
    inside = has_hart rank hart (subst IsLive (sym asks) tt)

    asks_now : asked rank hart ≡ Ask.Hub (request.Recv true comm source tag)
    asks_now = asks ∙ ap (λ p. Ask.Hub p) is

    mode_is : mode_of poster hart ≡ Waiting (Post n)
    mode_is = waits_for_post rank hart comm source tag inside asks_now n stamp

    asks_then : asked poster hart ≡ Ask.Hub (request.Collect n)
    asks_then = polls rank hart comm source tag inside asks_now n stamp

    module _ (d : Cluster) (two : Left (reply.Posted n false) d) where
      ranks_posted : d.ranks ≡ slice_set c.ranks r poster
      ranks_posted = two.ranks

      poster_there : slice_get d.ranks r ≡ Some poster
      poster_there = ap (λ xs. slice_get xs r) ranks_posted ∙ set_here c.ranks r poster rank here

      at_new : ((outcome (all_arrived (behind w r q)) r (request.Collect n)).0 ≡
          (outcome (hub_of d.journal) r (request.Collect n)).0)
          × IsSameHub (outcome (hub_of d.journal) r (request.Collect n)).1
          (behind_at_once (behind w r q) r (request.Collect n))
      at_new = same_call (hub_of d.journal) (all_arrived (behind w r q)) r (request.Collect n) two.hub

      gets : (outcome (hub_of d.journal) r (request.Collect n)).0 ≡ reply.Got m
      gets = sym at_new.0 ∙ collects

      pub ready : IsReadyPoll search d r
      ready = record {
        rank = poster;
        there = poster_there;
        light = ap weight_in mode_is;
        q = request.Collect n;
        asks = asks_then;
        ready = subst (IsReady (request.Collect n)) (sym (reply_is d.journal r (request.Collect n) ∙ gets)) tt;
        within = λ z at.
            let same = same_Some poster z (sym poster_there ∙ at) in
            subst (λ z. IsAllowed search.patterns r (pattern_of z hart) × AskWithin search.wild r (asked z hart)
            × PollWithin search.polls_of_complete r z hart) same (
              subst (λ k. IsAllowed search.patterns r
                  (pattern_of_ask (waits_on (doing poster.site (part_of poster hart))) k)) (sym asks_then)
                  (subst (λ b. IsAllowed search.patterns r (pattern_of_request b (request.Collect n)))
                  (sym (polls_on poster hart n mode_is)) tt),
              subst (AskWithin search.wild r) (sym asks_then) tt,
              waits_within search.polls_of_complete r poster hart (polls_on poster hart n mode_is),
            );
      }

      -- its poll leads to where its turn leads on the machine
      pub leads : (last : Cluster) → Turn r hart d last → IsNear last then
      leads last poll =
          let k = call_of r hart d last poster (request.Collect n) poster_there asks_then poll in
          let told_it : last.ranks ≡ told_so (reply.Got m) k.stamp =
          k.ranks ∙ ap (λ x. slice_set d.ranks r (told poster hart (answer.Reply x) k.stamp)) gets
          ∙ ap (λ xs. slice_set xs r (told poster hart (answer.Reply (reply.Got m)) k.stamp)) ranks_posted
          ∙ set_set c.ranks r poster (told poster hart (answer.Reply (reply.Got m)) k.stamp)
          ∙ ap (slice_set c.ranks r) (later rank hart comm source tag inside asks_now n stamp k.stamp m) in
          record {
            ranks = subst (λ xs. AreNear xs then.ranks) (sym told_it)
                (subst (AreNear (told_so (reply.Got m) k.stamp))
                (sym (ranks_then ∙ ap (λ x. told_so x called.stamp) got))
                (told_near c.ranks r hart rank (answer.Reply (reply.Got m)) k.stamp called.stamp));
            hub = same_hub_on (hub_of last.journal) (behind_at_once (behind w r q) r (request.Collect n))
                (hub_of then.journal)
                (subst (λ x. IsSameHub x (behind_at_once (behind w r q) r (request.Collect n))) (sym k.hubs) at_new.1)
                (same_hub_on (behind_at_once (behind w r q) r (request.Collect n)) (behind_at_once w r q)
                (hub_of then.journal) hub
                (same_hub_back (hub_of then.journal) (behind_at_once w r q) hub_then));
            boxes = called.boxes ∙ sym two.boxes ∙ sym k.boxes;
          }

    -- where all has arrived the receive is posted too, and doesn't wait
    abbrev p : Request
    p = request.Recv false comm source tag

    abbrev entry : Entry
    entry = record { rank = r; hart = hart; clock = 0; stamp = 0; request = p; reply = reply.Posted n false }

    p_within : AsksWithin search.wild r p
    p_within = subst (AsksWithin search.wild r) is asks_within

    p_hub : IsSameHub (outcome h r p).1 (all_arrived (behind w r q))
    p_hub =
        same_hub_on (outcome h r p).1 (behind_at_once w r p) (all_arrived (behind w r q)) (at_hub p).1
        (subst (λ v. IsSameHub (behind_at_once w r p) (all_arrived v))
        (sym (ap (behind w r) is ∙ posted_as w r comm source tag (ap (reply_on_way w r) (sym is) ∙ posted)))
        (same_hub_back (all_arrived (behind w r p)) (behind_at_once w r p)
        (told_same (answer_law image.links w a.came r p (subst NamesSource is named)))))
      where
        told_same : IsToldAs w r p → IsSameHub (all_arrived (behind w r p)) (behind_at_once w r p)
        told_same (in_vain none still) = absurd (not_posted _ false none)
        told_same (same told hub) = hub
        told_same (waits comm source tag m e posted got collects hub) = absurd (cc)
        told_same (synchronous comm dest tag bytes e posted got hub) = absurd (cc)

    pub posts_leaves : Leaves (reply.Posted n false)
    posts_leaves =
        let journal = with_entry c.journal entry in
        let o = outcome h r p in
        let made : hub_of journal ≡ o.1 = hub_entry c.journal entry in
        let d : Cluster = record { ranks = told_so (reply.Posted n false) stamp; journal = journal; boxes = c.boxes } in
        let mine : NamesRightly o.1.board.lines poster =
        rightly_told h.board.lines o.1.board.lines rank hart (answer.Reply (reply.Posted n false)) stamp
        (grows_after h r p tt)
        ((a.state.good).names r rank here)
        (tells_named h (laid_after c.journal.links (calls_of c.journal.entries)) r p tt
        (reply.Posted n false) told_posted) in (
          d,
          record {
            ranks = refl;
            boxes = refl;
            hub = subst (λ k. IsSameHub k (all_arrived (behind w r q))) (sym made) p_hub;
          },
          record {
            waits = subst (WaitsWithin search.wild) (sym made)
                (waits_after search.wild h (a.state.good).waits r p tt p_within);
            names = λ s y at.
                subst (λ (k : HubView). NamesRightly k.board.lines y) (sym made)
                (each_in (λ s y. NamesRightly o.1.board.lines y) c.ranks r poster mine
                (λ s y at. rightly_more h.board.lines o.1.board.lines y (grows_after h r p tt)
                ((a.state.good).names s y at))
                s y at);
            boxes = (a.state.good).boxes;
            stands = stands_then (reply.Posted n false);
          },
        )
      where
        told_posted : (outcome h r p).0 ≡ reply.Posted n false
        told_posted = sym (at_hub p).0 ∙ ap (λ k. reply.Posted k false) number
          where
            number : next_number (all_arrived w).board ≡ n
            number =
                let ps = posts_of (lines_of w) in
                ap (λ k. k + 1) (sym (posts_length (pairs ps)) ∙ ap length (posts_pairs ps) ∙ posts_length (lines_of w))

  -- ---- its synchronous send is complete once it has arrived, and it waits

  module _ (comm dest tag : ℕ) (bytes : List ℕ) (is : q ≡ request.Send true comm dest tag bytes)
      (posted : reply_on_way w r q ≡ reply.Posted (next_number w.hub.board) false)
      (done : reply_at_once w r q ≡ reply.Posted (next_number w.hub.board) true)
      (hub : IsSameHub (all_arrived (behind w r q)) (behind_at_once w r q))
      (ssend : IsSsend (doing rank.site (part_of rank (search.harts r)))) where
    abbrev number : ℕ
    number = next_number w.hub.board

    abbrev sender : Rank
    sender = told rank hart (answer.Reply (reply.Posted number false)) stamp

    has_it : hart < length rank.harts
    has_it = has_hart rank hart (subst IsLive (sym asks) tt)

    sender_waits : mode_of sender hart ≡ Waiting (Post number)
    sender_waits = send_waits rank hart q has_it asks ssend number stamp

    sender_asks : asked sender hart ≡ Ask.Hub (request.Finished number)
    sender_asks = send_polls rank hart q has_it asks ssend number stamp

    numbers : next_number w.hub.board ≡ next_number h.board
    numbers =
        let ps = posts_of (lines_of w) in
        ap (λ k. k + 1)
        (sym (posts_length (lines_of w)) ∙ ap length (sym (posts_pairs ps)) ∙ posts_length (pairs ps))
        ∙ ap (λ ls. length ls + 1) (sym a.arrived.hub.lines)

    -- where all has arrived it is told that its send is complete
    done_there : (outcome h r q).0 ≡ reply.Posted (next_number h.board) true
    done_there = sym (at_hub q).0 ∙ done ∙ ap (λ k. reply.Posted k true) numbers

    module _ (d : Cluster) (two : Left (reply.Posted number false) d) where
      sender_ranks : d.ranks ≡ slice_set c.ranks r sender
      sender_ranks = two.ranks

      sender_there : slice_get d.ranks r ≡ Some sender
      sender_there = ap (λ xs. slice_get xs r) sender_ranks ∙ set_here c.ranks r sender rank here

      -- the hub there is the one behind the turn of the machine
      same_then : IsSameHub (hub_of then.journal) (hub_of d.journal)
      same_then =
          same_hub_on (hub_of then.journal) (behind_at_once w r q) (hub_of d.journal) hub_then
          (same_hub_on (behind_at_once w r q) (all_arrived (behind w r q)) (hub_of d.journal)
          (same_hub_back (all_arrived (behind w r q)) (behind_at_once w r q) hub)
          (same_hub_back (hub_of d.journal) (all_arrived (behind w r q)) two.hub))

      complete_there : (outcome (hub_of d.journal) r (request.Finished number)).0 ≡ reply.Done
      complete_there =
          (same_call (hub_of then.journal) (hub_of d.journal) r (request.Finished number) same_then).0
          ∙ ap (λ k. (outcome k r (request.Finished number)).0) called.hubs
          ∙ ap (λ p. (outcome (outcome h r p).1 r (request.Finished number)).0) is
          ∙ ap (λ k. (outcome (outcome h r (request.Send true comm dest tag bytes)).1 r (request.Finished k)).0) numbers
          ∙ complete_still h r comm dest tag bytes (ap (λ p. (outcome h r p).0) (sym is) ∙ done_there)

      pub send_ready : IsReadyPoll search d r
      send_ready = record {
        rank = sender;
        there = sender_there;
        light = ap weight_in sender_waits;
        q = request.Finished number;
        asks = sender_asks;
        ready = subst (IsReady (request.Finished number))
            (sym (reply_is d.journal r (request.Finished number) ∙ complete_there)) tt;
        within = λ z at.
            let same = same_Some sender z (sym sender_there ∙ at) in
            subst (λ z. IsAllowed search.patterns r (pattern_of z hart) × AskWithin search.wild r (asked z hart)
            × PollWithin search.polls_of_complete r z hart) same (
              subst (λ k. IsAllowed search.patterns r
                  (pattern_of_ask (waits_on (doing sender.site (part_of sender hart))) k)) (sym sender_asks)
                  (subst (λ b. IsAllowed search.patterns r (pattern_of_request b (request.Finished number)))
                  (sym (polls_on sender hart number sender_waits)) tt),
              subst (AskWithin search.wild r) (sym sender_asks) tt,
              waits_within search.polls_of_complete r sender hart (polls_on sender hart number sender_waits),
            );
      }

      -- its poll leads to where its turn leads on the machine
      pub send_leads : (last : Cluster) → Turn r hart d last → IsNear last then
      send_leads last poll =
          let k = call_of r hart d last sender (request.Finished number) sender_there sender_asks poll in
          let told_it : last.ranks ≡ told_so (reply.Posted number true) k.stamp =
          k.ranks ∙ ap (λ x. slice_set d.ranks r (told sender hart (answer.Reply x) k.stamp)) complete_there
          ∙ ap (λ xs. slice_set xs r (told sender hart (answer.Reply reply.Done) k.stamp)) sender_ranks
          ∙ set_set c.ranks r sender (told sender hart (answer.Reply reply.Done) k.stamp)
          ∙ ap (slice_set c.ranks r) (send_later rank hart q has_it asks ssend number stamp k.stamp) in
          record {
            ranks = subst (λ xs. AreNear xs then.ranks) (sym told_it)
                (subst (AreNear (told_so (reply.Posted number true) k.stamp))
                (sym (ranks_then ∙ ap (λ x. told_so x called.stamp) done))
                (told_near c.ranks r hart rank (answer.Reply (reply.Posted number true)) k.stamp called.stamp));
            hub = same_hub_on (hub_of last.journal) (hub_of d.journal) (hub_of then.journal)
                (same_hub_back (hub_of d.journal) (hub_of last.journal)
                (same_hub_is (hub_of d.journal) (hub_of last.journal)
                (k.hubs ∙ asked_still h r comm dest tag bytes (hub_of d.journal) number)))
                (same_hub_back (hub_of then.journal) (hub_of d.journal) same_then);
            boxes = called.boxes ∙ sym two.boxes ∙ sym k.boxes;
          }

    pub completes_leaves : Leaves (reply.Posted number false)
    completes_leaves =
        let journal = then.journal in
        let made : hub_of journal ≡ (outcome h r q).1 = called.hubs in
        let d : Cluster = record { ranks = told_so (reply.Posted number false) stamp; journal = journal; boxes = c.boxes } in
        let mine : NamesRightly (hub_of journal).board.lines sender =
        subst (λ (k : HubView). NamesRightly k.board.lines sender) (sym made)
        (rightly_told h.board.lines (outcome h r q).1.board.lines rank hart
        (answer.Reply (reply.Posted number false)) stamp
        (grows_after h r q listed) ((a.state.good).names r rank here) tells) in (
          d,
          record {
            ranks = refl;
            boxes = refl;
            hub = same_hub_on (hub_of journal) (behind_at_once w r q) (all_arrived (behind w r q)) hub_then
                (same_hub_back (all_arrived (behind w r q)) (behind_at_once w r q) hub);
          },
          record {
            waits = (after.good).waits;
            names = λ s y at.
                each_in (λ s y. NamesRightly (hub_of journal).board.lines y) c.ranks r sender mine
                (λ s y at. subst (λ (k : HubView). NamesRightly k.board.lines y) (sym made)
                (rightly_more h.board.lines (outcome h r q).1.board.lines y (grows_after h r q listed)
                ((a.state.good).names s y at)))
                s y at;
            boxes = (a.state.good).boxes;
            stands = stands_then (reply.Posted number false);
          },
        )
      where
        listed : IsListed q
        listed = subst IsListed (sym is) tt

        -- it is told of its post, complete or not
        tells : TellsOnly (may_be_awaited (outcome h r q).1.board.lines) (answer.Reply (reply.Posted number false))
        tells =
            tells_named h (laid_after c.journal.links (calls_of c.journal.entries)) r q (subst IsTold (sym is) tt)
            (reply.Posted number true) (sym (at_hub q).0 ∙ done)

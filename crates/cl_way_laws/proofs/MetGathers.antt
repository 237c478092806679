-- A WAITALL on the way that names synchronous sends that are complete once all has arrived.
use Rattle.std.proofs.Common.{◌≡◌, ◌∙◌, ℕ, ◌+◌, ◌<◌, refl, sym, ap, subst, Bool, true, List, [], ◌∷◌, length, Option, Some}
use Rattle.std.specs.Prelude.{◌&&◌, map}
use Rattle.std.specs.List.{list_all, slice_get, slice_set}
use Rattle.std.proofs.lemmas.Bool.{eq-eqb}
use Rattle.rv_image_types.specs.declared.images.ImageParts.{ImageParts}
use Rattle.mp_types.specs.declared.codes.Code.TheVariants as code
use Rattle.mp_types.specs.declared.messages.Message.{Message}
use Rattle.mp_types.specs.declared.replies.Reply.{Reply}
use Rattle.mp_types.specs.declared.replies.Reply.TheVariants as reply
use Rattle.mp_types.specs.declared.requests.Request.{Request}
use Rattle.mp_types.specs.declared.requests.Request.TheVariants as request
use Rattle.mp_alike_laws.specs.Renaming.{no_renaming}
use Rattle.mp_hub.specs.Hub.{HubView, all_got, all_outcome, outcome, with_board}
use Rattle.mp_way_laws.specs.Way.{WayView, all_arrived}
use Rattle.mp_way_laws.specs.Answers.{IsSameHub, IsToldAs, behind, in_vain as vain, reply_on_way, same as told_same, synchronous, waits}
use Rattle.mp_way_laws.proofs.Answers.{answer_law}
use Rattle.cl_calls.specs.declared.calls.Several.{Several}
use Rattle.cl_calls.specs.Handles.{handles_in}
use Rattle.cl_calls.specs.Needs.{array_at}
use Rattle.cl_state.specs.declared.asking.Answer.{Answer}
use Rattle.cl_state.specs.declared.asking.Answer.TheVariants as answer
use Rattle.cl_state.specs.declared.asking.Ask.{Ask}
use Rattle.cl_state.specs.declared.pending.Manner.TheVariants.{Blocking}
use Rattle.cl_state.specs.declared.pending.Pending.{Pending}
use Rattle.cl_state.specs.declared.pending.Pending.TheVariants as pending
use Rattle.cl_state.specs.Asked.{Part, asked, asked_in, doing, part_of}
use Rattle.cl_state.specs.Rank.{Rank}
use Rattle.cl_state.specs.Several.{are_fit, asked_all, dealt, fits_one, given, pendings, posts_pending}
use Rattle.cl_state.specs.Table.{gathers, row_in}
use Rattle.cl_state.specs.Told.{completed_all, gathered_if, told, told_row, with_part}
use Rattle.cl_state_laws.specs.Awake.{StandsAtCall, awake}
use Rattle.cl_state_laws.specs.Vain.{waits_on}
use Rattle.cl_state_laws.proofs.Wakes.{wake_law}
use Rattle.cl_names_laws.proofs.Told.{row_at}
use Rattle.cl_post_laws.proofs.Renamed.{by_row}
use Rattle.cl_trace.specs.declared.events.Kind.{Kind}
use Rattle.cl_machine.specs.declared.steps.Step.{Step}
use Rattle.cl_machine.specs.Cluster.{Cluster, only_told}
use Rattle.cl_order_laws.specs.Alike.{AlikeRanks, hub_of}
use Rattle.cl_order_laws.proofs.Likeness.{rank_itself}
use Rattle.cl_order_laws.proofs.SureAlone.{IsLive, has_hart}
use Rattle.cl_first_laws.proofs.Exchanges.{Called, call_of, next, turn_of}
use Rattle.cl_reduction_laws.specs.Below.{Turn}
use Rattle.cl_reduction_laws.specs.Clusters.{IsWithin, Search, State, cluster_machine}
use Rattle.cl_reduction_laws.proofs.Good.{good_after}
use Rattle.cl_delay_laws.specs.Networks.{IsTurn, in_vain, same}
use Rattle.cl_contest_laws.proofs.Good.{good_alike}
use Rattle.cl_way_laws.specs.Clusters.{IsArrived, WayCluster, called_on_way}
use Rattle.cl_way_laws.specs.Met.{is_met, met, met_by, met_table}
use Rattle.cl_way_laws.proofs.Distinct.{apart_met, waitall_distinct}
use Rattle.cl_way_laws.proofs.MetAsks.{doing_met, met_part}
use Rattle.cl_way_laws.proofs.MetCalls.{alike_of}
use Rattle.cl_way_laws.proofs.MetGot.{GetsAs, all_of, gets_all, gets_as, got_same, has_to_wait, is_refused, many_got, refusal, sum}
use Rattle.cl_way_laws.proofs.MetNeeds.{Gathers, less}
use Rattle.cl_way_laws.proofs.MetRanks.{number_is, number_told, ranks_told, there_met}
use Rattle.cl_way_laws.proofs.MetRows.{row_at_met, with_met}
use Rattle.cl_way_laws.proofs.MetTold.{completes_by, gathers_by}
use Rattle.cl_way_laws.proofs.Named.{NamesApart}
use Rattle.cl_way_laws.proofs.Near.{AreNear, IsNear, near_alike, near_at, told_near}
use Rattle.cl_way_laws.proofs.Posting.{PostsAs, a_receive, a_send, lines_behind, lines_now, nothing, posts_as}
use Rattle.cl_way_laws.proofs.SameHubs.{same_call, same_hub_back, same_hub_is, same_hub_on}
use Rattle.cl_way_laws.proofs.States.{Behind, WayState, each_in}

module _ (search : Search) (image : ImageParts) (a : WayState search image) (r : ℕ) (x : Rank) (q : Request) (stamp : ℕ)
    (there : slice_get a.now.ranks r ≡ Some x) (asks : asked x (search.harts r) ≡ Ask.Hub q)
    (within : IsWithin search a.state.cluster r)
    (gathers_so : Gathers (is_met (lines_now a.now.way) x.site.number) x.memory x.requests (doing x.site (part_of x (search.harts r))))
    (apart : NamesApart x.requests) where
  abbrev hart : ℕ
  hart = search.harts r

  abbrev c : Cluster
  c = a.state.cluster

  abbrev h : HubView
  h = hub_of c.journal

  abbrev w : WayView
  w = a.now.way

  -- the hub once all has arrived
  abbrev full : HubView
  full = all_arrived w

  abbrev k : ℕ
  k = x.site.number

  abbrev d : ℕ → Bool
  d = is_met (lines_now w) k

  abbrev s : Several
  s = gathers_so.s

  abbrev hs : List ℕ
  hs = handles_in x.memory (array_at s.array s.count)

  -- what its requests need, on the way and once all has arrived
  abbrev ps : List Pending
  ps = pendings x.requests hs

  abbrev qs : List Pending
  qs = pendings (met_table d x.requests) hs

  abbrev new : WayCluster
  new = called_on_way a.now r hart x q stamp

  abbrev y : Rank
  y = met (lines_now w) x

  abbrev part : Part
  part = part_of x hart

  here : slice_get c.ranks r ≡ Some y
  here = there_met search image a r x there

  number : k ≡ r
  number = number_is search image a r x there

  -- ---- what it asks

  asks_all : asked x hart ≡ asked_all (posts_pending ps)
  unfolding asked
  asks_all = ap (asked_in x.site x.memory x.requests x.phases) gathers_so.is

  pub asks_them : asked x hart ≡ Ask.Hub (request.All (posts_pending ps))
  asks_them = asks_all ∙ ap asked_all gathers_so.names ∙ ap (λ ns. Ask.Hub (request.All ns)) (sym gathers_so.names)

  pub q_is : q ≡ request.All (posts_pending ps)
  q_is = same_request q (request.All (posts_pending ps)) (sym asks ∙ asks_them)
    where
      same_request : (p q : Request) → Ask.Hub p ≡ Ask.Hub q → p ≡ q
      same_request p q e = cc

  asks_then : asked y hart ≡ asked_all (posts_pending qs)
  unfolding asked
  asks_then =
      ap (asked_in x.site x.memory (met_table d x.requests) x.phases) (doing_met d x.site part ∙ gathers_so.is)

  -- ---- what it gets

  gets : GetsAs full k x.site ps qs
  gets =
      gets_as full k x.site ps qs (less d x.requests hs)
      (waitall_distinct x.site part s gathers_so.is apart)
      (waitall_distinct x.site (met_part d part) s (doing_met d x.site part ∙ gathers_so.is)
      (apart_met d x.requests apart))

  sums : sum full k x.site ps (all_got k full.board (posts_pending ps))
      ≡ sum full k x.site qs (all_got k full.board (posts_pending qs))
  sums = got_same full k x.site ps qs (less d x.requests hs) full.board refl

  -- the row of its call
  row_x : row_at x hart ≡ gathers Blocking s (posts_pending ps)
  row_x = ap (row_in x.site hart x.memory x.requests x.phases) gathers_so.is

  row_y : row_at y hart ≡ gathers Blocking s (posts_pending qs)
  row_y =
      row_at_met d x hart ∙ ap (row_in x.site hart x.memory (met_table d x.requests) x.phases) gathers_so.is

  number_then : (v : Answer) → met (lines_now w) (told x hart v stamp) ≡ met_by d (told x hart v stamp)
  number_then v = ap (λ n. met_by (is_met (lines_now w) n) (told x hart v stamp)) (number_told x hart v stamp)

  -- told the one on the way and the other once all has arrived, it is left the same
  tells : (u v : Answer)
      → told_row x.site (gathers Blocking s (posts_pending qs)) v (met_part d part)
      ≡ met_part d (told_row x.site (gathers Blocking s (posts_pending ps)) u part)
      → met (lines_now w) (told x hart u stamp) ≡ told y hart v stamp
  tells u v is =
      number_then u
      ∙ ap (met_by d) (by_row x hart u stamp
      ∙ ap (λ row. with_part x hart (told_row x.site row u part) stamp) row_x)
      ∙ sym (with_met d x hart (told_row x.site (gathers Blocking s (posts_pending ps)) u part) stamp)
      ∙ ap (λ p. with_part (met_by d x) hart p stamp) (sym is)
      ∙ sym (by_row y hart v stamp
      ∙ ap (λ row. with_part (met_by d x) hart (told_row x.site row v (met_part d part)) stamp) row_y)

  -- ---- the hub on the way

  lines_still : lines_behind w r q ≡ lines_now w
  lines_still = ap (lines_behind w r) q_is ∙ go (posts_as w r (request.All (posts_pending ps)) tt)
    where
      go : PostsAs w r (request.All (posts_pending ps))
          → lines_behind w r (request.All (posts_pending ps)) ≡ lines_now w
      go (nothing is none) = is
      go (a_send sync comm dest tag bytes is lines posted) = absurd (cc)
      go (a_receive now comm source tag is lines number) = absurd (cc)

  left_ranks : (v : Reply) → reply_on_way w r q ≡ v
      → map (met (lines_behind w r q)) new.ranks
      ≡ slice_set c.ranks r (met (lines_now w) (told x hart (answer.Reply v) stamp))
  left_ranks v is =
      ap (λ ls. map (met ls) new.ranks) lines_still
      ∙ ap (λ z. map (met (lines_now w)) (slice_set a.now.ranks r (told x hart (answer.Reply z) stamp))) is
      ∙ ranks_told search image a r x there (told x hart (answer.Reply v) stamp)

  stands_left : (v : Reply) (i : ℕ) (z : Rank)
      → slice_get (slice_set c.ranks r (met (lines_now w) (told x hart (answer.Reply v) stamp))) i ≡ Some z
      → StandsAtCall z (search.harts i)
  stands_left v =
      each_in (λ i z. StandsAtCall z (search.harts i)) c.ranks r (met (lines_now w) (told x hart (answer.Reply v) stamp))
      ((wake_law.stands) x hart stamp (answer.Reply v) ((a.state.good).stands r y here) tt)
      (λ i z at. (a.state.good).stands i z at)

  -- ---- a turn of the machine, or none

  -- the cluster is near the one behind the call
  record Leads (v : Reply) : Type 0 where
    pub is : reply_on_way w r q ≡ v
    pub state : State search
    pub ranks : AreNear state.cluster.ranks
        (slice_set c.ranks r (met (lines_now w) (told x hart (answer.Reply v) stamp)))
    pub hub : IsSameHub (hub_of state.cluster.journal) (all_arrived (behind w r q))
    pub boxes : state.cluster.boxes ≡ c.boxes
    pub goes : ((b : State search) → IsNear state.cluster b.cluster → IsTurn (cluster_machine search) r a.state b)

  leads_near : (v : Reply) (l : Leads v) (b : Cluster) → IsArrived new b → IsNear l.state.cluster b
  leads_near v l b two = record {
    ranks = subst (AreNear l.state.cluster.ranks) (sym (two.ranks ∙ left_ranks v l.is)) l.ranks;
    hub = same_hub_on (hub_of l.state.cluster.journal) (all_arrived (behind w r q)) (hub_of b.journal) l.hub
        (same_hub_back (hub_of b.journal) (all_arrived (behind w r q)) two.hub);
    boxes = two.boxes ∙ sym a.arrived.boxes ∙ sym l.boxes;
  }

  leads_behind : (v : Reply) → Leads v → Behind search new
  leads_behind v l =
      let b : Cluster = record {
        ranks = slice_set c.ranks r (met (lines_now w) (told x hart (answer.Reply v) stamp));
        journal = l.state.cluster.journal;
        boxes = c.boxes;
      } in
      let two : IsArrived new b =
      record { ranks = sym (left_ranks v l.is); boxes = a.arrived.boxes; hub = l.hub } in
      record {
        cluster = b;
        arrived = two;
        good = good_alike search l.state.cluster b
            (near_alike search.wild l.state.cluster b (l.state.good).boxes (leads_near v l b two)) l.state.good
            (stands_left v);
      }

  -- nothing is there yet for one of them
  waits_still : reply_on_way w r q ≡ reply.NotYet → IsSameHub full (all_arrived (behind w r q)) → Leads reply.NotYet
  waits_still is hub = record {
    is = is;
    state = a.state;
    ranks = near_at c.ranks r y (met (lines_now w) (told x hart (answer.Reply reply.NotYet) stamp)) here
        (subst (λ z. AlikeRanks no_renaming (awake y) z)
        (sym (ap awake (number_then (answer.Reply reply.NotYet))
        ∙ ap (met_by d) ((wake_law.vain) x hart stamp q (ap waits_on gathers_so.is) asks)))
        (rank_itself (awake y) stamp));
    hub = same_hub_on h full (all_arrived (behind w r q)) a.arrived.hub hub;
    boxes = refl;
    goes = λ b near. in_vain (alike_of search a.state b near);
  }

  -- ---- it asks the hub once all has arrived, too

  module _ (n : ℕ) (ns : List ℕ) (posts : posts_pending qs ≡ n ∷ ns) where
    abbrev p : Request
    p = request.All (posts_pending qs)

    asks_y : asked y hart ≡ Ask.Hub p
    asks_y = asks_then ∙ ap asked_all posts ∙ ap (λ ns. Ask.Hub (request.All ns)) (sym posts)

    abbrev then : Cluster
    then = next c r hart y p

    turn : Turn r hart c then
    turn = turn_of c r hart y p here asks_y

    called : Called r hart c then y p
    called = call_of r hart c then y p here asks_y turn

    at : ((outcome full r p).0 ≡ (outcome h r p).0) × IsSameHub (outcome h r p).1 (outcome full r p).1
    at = same_call h full r p a.arrived.hub

    abbrev after : State search
    after = record { cluster = then; good = good_after search r c then y here a.state.good within turn }

    ranks_called : (v : Reply) → (all_outcome full r (posts_pending qs)).0 ≡ v
        → then.ranks ≡ slice_set c.ranks r (told y hart (answer.Reply v) called.stamp)
    ranks_called v is =
        called.ranks ∙ ap (λ z. slice_set c.ranks r (told y hart (answer.Reply z) called.stamp)) (sym at.0 ∙ is)

    -- it is told this by the hub
    by_call : (u v : Reply) → reply_on_way w r q ≡ u → (all_outcome full r (posts_pending qs)).0 ≡ v
        → IsSameHub (all_outcome full r (posts_pending qs)).1 (all_arrived (behind w r q))
        → told_row x.site (gathers Blocking s (posts_pending qs)) (answer.Reply v) (met_part d part)
        ≡ met_part d (told_row x.site (gathers Blocking s (posts_pending ps)) (answer.Reply u) part)
        → Leads u
    by_call u v is told_v hub row = record {
      is = is;
      state = after;
      ranks = subst (λ z. AreNear then.ranks (slice_set c.ranks r z)) (sym (tells (answer.Reply u) (answer.Reply v) row))
          (subst (λ xs. AreNear xs (slice_set c.ranks r (told y hart (answer.Reply v) stamp))) (sym (ranks_called v told_v))
          (told_near c.ranks r hart y (answer.Reply v) called.stamp stamp));
      hub = same_hub_on (hub_of then.journal) (all_outcome full r (posts_pending qs)).1 (all_arrived (behind w r q))
          (subst (λ z. IsSameHub z (all_outcome full r (posts_pending qs)).1) (sym called.hubs) at.1) hub;
      boxes = called.boxes;
      goes = λ b near. same after turn (alike_of search after b near);
    }

  -- it asks nobody once all has arrived
  alone : (u : Reply) → reply_on_way w r q ≡ u → posts_pending qs ≡ [] → IsSameHub full (all_arrived (behind w r q))
      → told_row x.site (gathers Blocking s (posts_pending qs)) answer.Alone (met_part d part)
      ≡ met_part d (told_row x.site (gathers Blocking s (posts_pending ps)) (answer.Reply u) part)
      → Leads u
  alone u is none hub row =
      let step : Step = record { rank = r; hart = hart; stamp = y.clock + 1; kind = Kind.Local } in
      let then : Cluster = only_told c step y answer.Alone in
      let inside : hart < length x.harts = has_hart x hart (subst IsLive (sym asks) tt) in
      let turn : Turn r hart c then = record {
        step = step;
        rank = refl;
        hart = refl;
        leads = (y, here, inside, (asks_then ∙ ap asked_all none, refl, refl));
      } in
      let after : State search =
      record { cluster = then; good = good_after search r c then y here a.state.good within turn } in
      record {
        is = is;
        state = after;
        ranks = subst (λ z. AreNear then.ranks (slice_set c.ranks r z)) (sym (tells (answer.Reply u) answer.Alone row))
            (told_near c.ranks r hart y answer.Alone (y.clock + 1) stamp);
        hub = same_hub_on h full (all_arrived (behind w r q)) a.arrived.hub hub;
        boxes = refl;
        goes = λ b near. same after turn (alike_of search after b near);
      }

  -- ---- what each request is given

  abbrev gots : List (Option Message)
  gots = (all_got k full.board (posts_pending ps)).0

  abbrev others : List (Option Message)
  others = (all_got k full.board (posts_pending qs)).0

  given_same : given x.site qs others ≡ given x.site ps gots
  given_same = sym (ap (λ z. z.1) sums)

  boards_same : (all_got k full.board (posts_pending ps)).1 ≡ (all_got k full.board (posts_pending qs)).1
  boards_same = ap (λ z. z.0) sums

  fit_of : (zs : List Pending)
      → are_fit x.site zs (all_got k full.board (posts_pending zs)).0
      ≡ list_all (λ z. fits_one x.site z.0 z.1) (dealt zs (all_got k full.board (posts_pending zs)).0)
  fit_of zs =
      ap (λ b. b && list_all (λ z. fits_one x.site z.0 z.1) (dealt zs (all_got k full.board (posts_pending zs)).0))
      (eq-eqb _ _ (many_got k (posts_pending zs) full.board))

  fits_same : are_fit x.site qs others ≡ are_fit x.site ps gots
  fits_same = fit_of qs ∙ sym (ap (λ z. z.2) sums) ∙ sym (fit_of ps)

  got_row : (n : ℕ) (ns : List ℕ) → posts_pending qs ≡ n ∷ ns
      → told_row x.site (gathers Blocking s (posts_pending qs)) (answer.Reply (reply.AllGot others)) (met_part d part)
      ≡ met_part d (told_row x.site (gathers Blocking s (posts_pending ps)) (answer.Reply (reply.AllGot gots)) part)
  got_row n ns posts =
      ap (λ l. told_row x.site (gathers Blocking s l) (answer.Reply (reply.AllGot others)) (met_part d part)) posts
      ∙ ap (λ b. gathered_if b x.site 0 s.statuses hs others (met_part d part)) fits_same
      ∙ gathers_by d (are_fit x.site ps gots) x.site 0 s.statuses hs gots others part given_same
      ∙ sym (ap (λ l. met_part d (told_row x.site (gathers Blocking s l) (answer.Reply (reply.AllGot gots)) part))
      gathers_so.names)

  alone_row : posts_pending qs ≡ []
      → told_row x.site (gathers Blocking s (posts_pending qs)) answer.Alone (met_part d part)
      ≡ met_part d (told_row x.site (gathers Blocking s (posts_pending ps)) (answer.Reply (reply.AllGot gots)) part)
  alone_row none =
      ap (λ l. told_row x.site (gathers Blocking s l) answer.Alone (met_part d part)) none
      ∙ ap (λ g. completed_all x.site 0 s.statuses hs g (met_part d part))
      (sym (ap (λ l. (all_got k full.board l).0) none))
      ∙ completes_by d x.site 0 s.statuses hs gots others part given_same
      ∙ ap (λ b. met_part d (gathered_if b x.site 0 s.statuses hs gots part)) (sym fits)
      ∙ sym (ap (λ l. met_part d (told_row x.site (gathers Blocking s l) (answer.Reply (reply.AllGot gots)) part))
      gathers_so.names)
    where
      none_fits : (zs : List Pending) → posts_pending zs ≡ []
          → list_all (λ z. fits_one x.site z.0 z.1) (dealt zs []) ≡ true
      none_fits [] e = refl
      none_fits (pending.Nothing ∷ zs) e = none_fits zs e
      none_fits (pending.FromNull ∷ zs) e = none_fits zs e
      none_fits (pending.Message n buffer capacity ∷ zs) e = absurd (cc)
      none_fits (pending.Word n ∷ zs) e = absurd (cc)

      fits : are_fit x.site ps gots ≡ true
      fits =
          sym fits_same ∙ fit_of qs
          ∙ ap (λ l. list_all (λ z. fits_one x.site z.0 z.1) (dealt qs (all_got k full.board l).0)) none
          ∙ none_fits qs none

  code_row : (n : ℕ) (ns : List ℕ) → posts_pending qs ≡ n ∷ ns
      → told_row x.site (gathers Blocking s (posts_pending qs)) (answer.Reply (reply.Code code.BadRequest)) (met_part d part)
      ≡ met_part d (told_row x.site (gathers Blocking s (posts_pending ps)) (answer.Reply (reply.Code code.BadRequest)) part)
  code_row n ns posts =
      ap (λ l. told_row x.site (gathers Blocking s l) (answer.Reply (reply.Code code.BadRequest)) (met_part d part)) posts
      ∙ sym (ap (λ l. met_part d (told_row x.site (gathers Blocking s l) (answer.Reply (reply.Code code.BadRequest)) part))
      gathers_so.names)

  -- ---- in each case

  by_number : (zs : List Pending) → all_outcome full r (posts_pending zs) ≡ all_outcome full k (posts_pending zs)
  by_number zs = ap (λ n. all_outcome full n (posts_pending zs)) (sym number)

  module _ (told_so : reply_on_way w r q ≡ (all_outcome full r (posts_pending ps)).0)
      (hub_so : IsSameHub (all_outcome full r (posts_pending ps)).1 (all_arrived (behind w r q))) where
    abbrev Found : Type 0
    Found = (v : Reply) × Leads v

    in_case : GetsAs full k x.site ps qs → Found
    in_case (has_to_wait one two) =
        let is = by_number ps ∙ one in (
          reply.NotYet,
          waits_still (told_so ∙ ap (λ (o : Reply × HubView). o.0) is)
              (subst (λ (o : Reply × HubView). IsSameHub o.1 (all_arrived (behind w r q))) is hub_so),
        )
    in_case (is_refused one two) = go (posts_pending qs) refl
      where
        is : all_outcome full r (posts_pending ps) ≡ refusal full k x.site
        is = by_number ps ∙ one

        its : all_outcome full r (posts_pending qs) ≡ refusal full k x.site
        its = by_number qs ∙ two

        go : (l : List ℕ) → posts_pending qs ≡ l → Found
        go [] e = (let other = ap (all_outcome full r) (sym e) ∙ its in absurd (never other))
          where
            never : all_outcome full r [] ≡ refusal full k x.site → ⊥
            never e = (let f = ap (λ (o : Reply × HubView). o.0) e in absurd (cc))
        go (n ∷ ns) e = (
          reply.Code code.BadRequest,
          by_call n ns e (reply.Code code.BadRequest) (reply.Code code.BadRequest)
              (told_so ∙ ap (λ (o : Reply × HubView). o.0) is) (ap (λ (o : Reply × HubView). o.0) its)
              (subst (λ (o : Reply × HubView). IsSameHub o.1 (all_arrived (behind w r q))) (is ∙ sym its) hub_so)
              (code_row n ns e),
        )
    in_case (gets_all one two) = go (posts_pending qs) refl
      where
        is : all_outcome full r (posts_pending ps) ≡ all_of full k x.site ps
        is = by_number ps ∙ one

        its : all_outcome full r (posts_pending qs) ≡ all_of full k x.site qs
        its = by_number qs ∙ two

        hub_then : IsSameHub (with_board full (all_got k full.board (posts_pending qs)).1) (all_arrived (behind w r q))
        hub_then =
            subst (λ b. IsSameHub (with_board full b) (all_arrived (behind w r q))) boards_same
            (subst (λ (o : Reply × HubView). IsSameHub o.1 (all_arrived (behind w r q))) is hub_so)

        go : (l : List ℕ) → posts_pending qs ≡ l → Found
        go [] e = (
          reply.AllGot gots,
          alone (reply.AllGot gots) (told_so ∙ ap (λ (o : Reply × HubView). o.0) is) e
              (subst (λ l. IsSameHub (with_board full (all_got k full.board l).1) (all_arrived (behind w r q))) e hub_then)
              (alone_row e),
        )
        go (n ∷ ns) e = (
          reply.AllGot gots,
          by_call n ns e (reply.AllGot gots) (reply.AllGot others) (told_so ∙ ap (λ (o : Reply × HubView). o.0) is)
              (ap (λ (o : Reply × HubView). o.0) its)
              (subst (λ (o : Reply × HubView). IsSameHub o.1 (all_arrived (behind w r q))) (sym its) hub_then)
              (got_row n ns e),
        )

  found : (v : Reply) × Leads v
  found = go (answer_law image.links w a.came r (request.All (posts_pending ps)) tt)
    where
      go : IsToldAs w r (request.All (posts_pending ps)) → (v : Reply) × Leads v
      go (vain none still) = (
        reply.NotYet,
        waits_still (ap (reply_on_way w r) q_is ∙ none)
            (same_hub_is full (all_arrived (behind w r q)) (ap all_arrived (ap (behind w r) q_is ∙ still))),
      )
      go (told_same is hub) =
          in_case (ap (reply_on_way w r) q_is ∙ is)
          (subst (λ p. IsSameHub (all_outcome full r (posts_pending ps)).1 (all_arrived (behind w r p))) (sym q_is)
          (same_hub_back (all_arrived (behind w r (request.All (posts_pending ps))))
          (all_outcome full r (posts_pending ps)).1 hub)) gets
      go (waits comm source tag m e posted got collects hub) = absurd (cc)
      go (synchronous comm dest tag bytes e posted done hub) = absurd (cc)

  pub gathers_goes : (b : State search) → IsArrived new b.cluster → IsTurn (cluster_machine search) r a.state b
  gathers_goes b two = (let f = found in f.1.goes b (leads_near f.0 f.1 b.cluster two))

  pub gathers_behind : Behind search new
  gathers_behind = (let f = found in leads_behind f.0 f.1)

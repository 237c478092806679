-- The cluster on the way as a network over the machine on which messages arrive at once.
use Rattle.std.proofs.Common.{◌≡◌, ◌∙◌, ℕ, ◌<◌, ◌⊎◌, inl, inr, refl, sym, ap, subst, Bool, length, Some, ◌∷◌}
use Rattle.std.specs.Prelude.{map}
use Rattle.std.specs.List.{slice_get, slice_set}
use Rattle.rv_image_types.specs.declared.images.ImageParts.{ImageParts}
use Rattle.mp_types.specs.declared.requests.Request.{Request}
use Rattle.mp_types.specs.declared.requests.Request.TheVariants as request
use Rattle.mp_match.specs.declared.posts.Sent.{Sent}
use Rattle.mp_probe.specs.Claims.{next_number}
use Rattle.mp_hub.specs.Hub.{HubView}
use Rattle.mp_way_laws.specs.Way.{IsNext, all_arrived, arrival}
use Rattle.mp_way_laws.specs.Runs.{NamesSource}
use Rattle.mp_way_laws.specs.Answers.{IsSameHub, reply_on_way}
use Rattle.mp_way_laws.proofs.Came.{way_law}
use Rattle.cl_state.specs.declared.asking.Answer.{Answer}
use Rattle.cl_state.specs.declared.asking.Answer.TheVariants as answer
use Rattle.cl_state.specs.declared.asking.Ask.{Ask}
use Rattle.cl_state.specs.declared.asking.Doing.{Doing}
use Rattle.cl_state.specs.Asked.{asked, doing, part_of}
use Rattle.cl_state.specs.Rank.{Rank}
use Rattle.cl_state.specs.Told.{told}
use Rattle.cl_machine.specs.declared.steps.Step.{Step}
use Rattle.cl_machine.specs.Cluster.{CaseOf, Cluster}
use Rattle.cl_machine.specs.Journal.{Journal}
use Rattle.cl_order_laws.specs.Alike.{Leads, hub_of}
use Rattle.cl_outcome_laws.proofs.CatchUp.{told_so}
use Rattle.cl_schedule_laws.specs.Machines.{Machine}
use Rattle.cl_reduction_laws.specs.Below.{AreAlike, Turn}
use Rattle.cl_reduction_laws.specs.Clusters.{IsWithin, Search, State, awake_cluster, cluster_machine}
use Rattle.cl_reduction_laws.proofs.Awake.{from_mapped}
use Rattle.cl_reduction_laws.proofs.Good.{good_after, plans_of}
use Rattle.cl_delay_laws.specs.Networks.{IsNetwork, IsTurn, Network, same}
use Rattle.cl_contest_laws.proofs.Homes.{AreHome, IsHome, home_told}
use Rattle.cl_way_laws.specs.Clusters.{IsArrived, IsElsewhere, WayCluster, WayTurn, arrived_at, at_hub, called_on_way, elsewhere, with_journal}
use Rattle.cl_way_laws.specs.Met.{is_met, met}
use Rattle.cl_contests.specs.Waiting.{OnlyWaits}
use Rattle.cl_way_laws.proofs.Elsewhere.{IsNoReply, MovesToo, asks_elsewhere, moved, moves_too}
use Rattle.cl_way_laws.proofs.MetAsks.{DoesSame, asks_met}
use Rattle.cl_way_laws.proofs.MetCalls.{call_behind, call_goes, call_named}
use Rattle.cl_way_laws.proofs.MetGathers.{gathers_behind, gathers_goes, q_is as gathers_q}
use Rattle.cl_way_laws.proofs.MetHomes.{home_back, home_met}
use Rattle.cl_way_laws.proofs.MetNeeds.{Gathers, WaitsForMet, gathers_asks, wait_asks}
use Rattle.cl_way_laws.proofs.MetRanks.{apart_told, ranks_told, same_within, tells_next, there_met, told_alone}
use Rattle.cl_way_laws.proofs.MetTold.{Unmet}
use Rattle.cl_way_laws.proofs.MetWaits.{q_is, wait_behind, wait_goes}
use Rattle.cl_way_laws.proofs.Near.{IsNear, arrived_near, near_alike}
use Rattle.cl_way_laws.proofs.Named.{NamesApart, Tells}
use Rattle.cl_way_laws.proofs.Posting.{lines_now, posts_as}
use Rattle.cl_way_laws.proofs.SameHubs.{same_hub_is, same_hub_itself}
use Rattle.cl_way_laws.proofs.States.{Behind, WayState, came_by_arrival, came_by_call, each_in}

-- the ranks that are home are so when one of them was told something
home_set : (image : ImageParts) (c d : Cluster) (r : ℕ) (rank z : Rank) → slice_get c.ranks r ≡ Some rank
    → d.ranks ≡ slice_set c.ranks r z → (IsHome image r rank → IsHome image r z) → AreHome image c
    → AreHome image d
home_set image c d r rank z there ranks mine home s x at =
    each_in (IsHome image) c.ranks r z (mine (home r rank there)) (λ s x at. home s x at) s x
    (ap (λ xs. slice_get xs s) (sym ranks) ∙ at)

module _ (search : Search) (image : ImageParts) (waits_only : OnlyWaits search) where
  abbrev hart : ℕ → ℕ
  hart = search.harts

  abbrev pub machine : Machine
  machine = cluster_machine search

  abbrev pub network : Network machine
  network = record {
    State = WayState search image;
    Goes = λ r a b. WayTurn r (search.harts r) a.now b.now;
    Arrives = λ a b. (place : ℕ) × (sent : Sent) × IsNext a.now.way place sent × (b.now ≡ arrived_at a.now place sent);
    arrived = λ a. a.state;
  }

  alike_near : (a b : State search) → IsNear a.cluster b.cluster
      → AreAlike search.wild (awake_cluster a.cluster) (awake_cluster b.cluster)
  alike_near a b near = near_alike search.wild a.cluster b.cluster (a.good).boxes near

  -- ---- an arrival

  arrival_same : (a : WayCluster) (place : ℕ) (sent : Sent) → all_arrived (arrival a.way place sent) ≡ all_arrived a.way
  arrival_same a place sent = way_law.arrivals a.way place sent

  arrival_near : (a b : WayState search image) (place : ℕ) (sent : Sent) → b.now ≡ arrived_at a.now place sent
      → IsNear a.state.cluster b.state.cluster
  arrival_near a b place sent is =
      let new = arrived_at a.now place sent in
      arrived_near a.now new a.state.cluster b.state.cluster a.arrived
      (subst (λ v. IsArrived v b.state.cluster) is b.arrived)
      (ap (λ (h : HubView). map (met h.board.lines) a.now.ranks) (sym (arrival_same a.now place sent))) refl
      (same_hub_is (all_arrived a.now.way) (all_arrived new.way) (arrival_same a.now place sent))

  pub arrived_behind : (a : WayState search image) (place : ℕ) (sent : Sent) → IsNext a.now.way place sent
      → (new : WayCluster)
      → new ≡ arrived_at a.now place sent
      → (b : WayState search image) × (b.now ≡ new)
  arrived_behind a place sent next new is = (
    record {
      now = arrived_at a.now place sent;
      state = a.state;
      arrived = record {
        ranks = a.arrived.ranks
            ∙ ap (λ (h : HubView). map (met h.board.lines) a.now.ranks) (sym (arrival_same a.now place sent));
        boxes = a.arrived.boxes;
        hub = subst (IsSameHub (hub_of a.state.cluster.journal)) (sym (arrival_same a.now place sent)) a.arrived.hub;
      };
      came = came_by_arrival image.links a.now.way place sent next a.came;
      home = a.home;
      apart = a.apart;
    },
    sym is,
  )

  -- ---- what a rank does on the way, and once all has arrived

  module _ (a : WayState search image) (r : ℕ) (within : IsWithin search a.state.cluster r) (x : Rank)
      (there : slice_get a.now.ranks r ≡ Some x) where
    abbrev d : ℕ → Bool
    d = is_met (lines_now a.now.way) x.site.number

    abbrev does : Doing
    does = doing x.site (part_of x (search.harts r))

    choice : DoesSame d x.memory x.requests does
        ⊎ (WaitsForMet d x.requests does ⊎ Gathers d x.memory x.requests does)
    choice =
        same_within search waits_only a.state.cluster r within (lines_now a.now.way) x
        (there_met search image a r x there)

    -- ---- a call

    module _ (q : Request) (stamp : ℕ) (asks : asked x (search.harts r) ≡ Ask.Hub q) where
      abbrev called_new : WayCluster
      called_new = called_on_way a.now r (search.harts r) x q stamp

      hub_goes : (b : WayState search image) → IsArrived called_new b.state.cluster → IsTurn machine r a.state b.state
      hub_goes b two = elim choice [
        | inl same_does ↦
            call_goes search image waits_only a r x q stamp there asks within same_does b.state two
        | inr (inl waits_so) ↦ wait_goes search image a r x q stamp there asks within waits_so b.state two
        | inr (inr gathers_so) ↦
            gathers_goes search image a r x q stamp there asks within gathers_so (a.apart r x there) b.state two
      ]

      hub_named : NamesSource q
      hub_named = elim choice [
        | inl same_does ↦ call_named search image waits_only a r x q stamp there asks within same_does
        | inr (inl waits_so) ↦
            subst NamesSource (sym (q_is search image a r x q stamp there asks within waits_so)) tt
        | inr (inr gathers_so) ↦
            subst NamesSource
            (sym (gathers_q search image a r x q stamp there asks within gathers_so (a.apart r x there))) tt
      ]

      hub_left : Behind search called_new
      hub_left = elim choice [
        | inl same_does ↦ call_behind search image waits_only a r x q stamp there asks within same_does
        | inr (inl waits_so) ↦ wait_behind search image a r x q stamp there asks within waits_so
        | inr (inr gathers_so) ↦
            gathers_behind search image a r x q stamp there asks within gathers_so (a.apart r x there)
      ]

      hub_home : (b : Behind search called_new) → AreHome image b.cluster
      hub_home b s z at =
          let f = from_mapped (met (lines_now called_new.way)) called_new.ranks s z
          (ap (λ xs. slice_get xs s) (sym b.arrived.ranks) ∙ at) in
          subst (IsHome image s) f.2
          (home_met image (is_met (lines_now called_new.way) f.0.site.number) s f.0
          (each_in (IsHome image) a.now.ranks r (told x (search.harts r) (answer.Reply (reply_on_way a.now.way r q)) stamp)
          (home_told image r (search.harts r) x (answer.Reply (reply_on_way a.now.way r q)) stamp (home_there r x there)) home_there s f.0 f.1))
        where
          home_there : (s : ℕ) (z : Rank) → slice_get a.now.ranks s ≡ Some z → IsHome image s z
          home_there s z at =
              home_back image (is_met (lines_now a.now.way) z.site.number) s z
              (a.home s (met (lines_now a.now.way) z) (there_met search image a s z at))

      pub hub_behind : WayState search image
      hub_behind =
          let b : Behind search called_new = hub_left in
          record {
            now = called_new;
            state = record { cluster = b.cluster; good = b.good };
            arrived = b.arrived;
            came = came_by_call image.links a.now.way r q hub_named a.came;
            home = hub_home b;
            apart = each_in (λ s z. NamesApart z.requests) a.now.ranks r
                (told x (search.harts r) (answer.Reply (reply_on_way a.now.way r q)) stamp)
                (apart_told search image a r x there (a.apart r x there) (search.harts r) stamp
                (answer.Reply (reply_on_way a.now.way r q))
                (tells_next search image a r q x.site (posts_as a.now.way r q hub_named)))
                a.apart;
          }

    -- ---- a turn that doesn't ask the hub

    module _ (journal : Journal) (e : Step) (next : Cluster) (mine : e.rank ≡ r) (its : e.hart ≡ search.harts r)
        (is : IsElsewhere e.kind) (inside : e.hart < length x.harts)
        (case : CaseOf (with_journal a.now journal) e x e.kind next) where
      abbrev c : Cluster
      c = a.state.cluster

      abbrev y : Rank
      y = met (lines_now a.now.way) x

      abbrev new : WayCluster
      new = record { ranks = next.ranks; way = a.now.way; boxes = next.boxes }

      same_does : DoesSame d x.memory x.requests does
      same_does = elim choice [
        | inl it ↦ it
        | inr (inl waits_so) ↦
            absurd (asks_elsewhere a.now journal e x next e.kind is case (request.Finished waits_so.n)
            (ap (asked x) its ∙ wait_asks d x (search.harts r) waits_so))
        | inr (inr gathers_so) ↦
            absurd (asks_elsewhere a.now journal e x next e.kind is case
            (request.All (gathers_so.post ∷ gathers_so.posts))
            (ap (asked x) its ∙ gathers_asks d x (search.harts r) gathers_so))
      ]

      asks_same : asked y e.hart ≡ asked x e.hart
      asks_same =
          ap (asked y) its ∙ asks_met d x (search.harts r) same_does ∙ ap (asked x) (sym its)

      moves : MovesToo a.now journal e x next c.journal c.ranks d e.kind
      moves = moves_too a.now journal e x next c.journal c.ranks d e.kind is asks_same case

      abbrev after : Cluster
      after = moved a.now journal e x next c.journal c.ranks d moves.told_this

      is_cluster : (let k : Cluster = record { ranks = c.ranks; journal = c.journal; boxes = a.now.boxes } in k) ≡ c
      is_cluster = λ i. record { ranks = c.ranks; journal = c.journal; boxes = sym a.arrived.boxes i }

      here : slice_get c.ranks r ≡ Some y
      here = there_met search image a r x there

      leads_too : Leads c e after
      leads_too =
          subst (λ k. Leads k e after) is_cluster
          (y, ap (slice_get c.ranks) mine ∙ here, inside, moves.too)

      else_turn : Turn r (search.harts r) c after
      else_turn = record { step = e; rank = mine; hart = its; leads = leads_too }

      abbrev else_state : State search
      else_state = record { cluster = after; good = good_after search r c after y here a.state.good within else_turn }

      tells_none : (v : Answer) → IsNoReply v → Tells (next_number a.now.way.hub.board) x.site v
      tells_none (answer.Reply v) none = absurd none
      tells_none _ none = tt

      unmet_answer : (v : Answer) → IsNoReply v → Unmet d v
      unmet_answer (answer.Reply v) none = absurd none
      unmet_answer _ none = tt

      else_ranks : map (met (lines_now a.now.way)) next.ranks ≡ after.ranks
      else_ranks =
          ap (map (met (lines_now a.now.way))) moves.ranks_are
          ∙ ap (λ k. map (met (lines_now a.now.way)) (slice_set a.now.ranks k (told x e.hart moves.told_this e.stamp))) mine
          ∙ ranks_told search image a r x there (told x e.hart moves.told_this e.stamp)
          ∙ ap (λ k. slice_set c.ranks k (met (lines_now a.now.way) (told x e.hart moves.told_this e.stamp))) (sym mine)
          ∙ ap (slice_set c.ranks e.rank)
          (ap (λ h. met (lines_now a.now.way) (told x h moves.told_this e.stamp)) its
          ∙ told_alone search image a r x there (search.harts r) e.stamp moves.told_this same_does
          (unmet_answer moves.told_this moves.no_reply)
          ∙ ap (λ h. told y h moves.told_this e.stamp) (sym its))

      else_arrived : IsArrived new after
      else_arrived = record { ranks = sym else_ranks; boxes = refl; hub = a.arrived.hub }

      else_near : (b : Cluster) → IsArrived new b → IsNear after b
      else_near b two =
          arrived_near new new after b else_arrived two refl refl (same_hub_itself (all_arrived a.now.way))

      else_goes : (b : WayState search image) → IsArrived new b.state.cluster → IsTurn machine r a.state b.state
      else_goes b two =
          same else_state else_turn (alike_near else_state b.state (else_near b.state.cluster two))

      else_home : AreHome image after
      else_home =
          let l = leads_too in
          let t = told_so (plans_of search.harts) c after e l.0 e.kind l.3 in
          home_set image c after e.rank l.0 (told l.0 e.hart t.0 e.stamp) l.1 t.1
          (home_told image e.rank e.hart l.0 t.0 e.stamp) a.home

      else_behind : WayState search image
      else_behind = record {
        now = new;
        state = else_state;
        arrived = else_arrived;
        came = a.came;
        home = else_home;
        apart = λ s z at.
            each_in (λ s z. NamesApart z.requests) a.now.ranks e.rank (told x e.hart moves.told_this e.stamp)
            (apart_told search image a r x there (a.apart r x there) e.hart e.stamp moves.told_this
            (tells_none moves.told_this moves.no_reply))
            a.apart s z (ap (λ xs. slice_get xs s) (sym moves.ranks_are) ∙ at);
      }

  -- ---- any turn

  turn_goes : (r : ℕ) (a b : WayState search image) → IsWithin search a.state.cluster r
      → WayTurn r (search.harts r) a.now b.now
      → IsTurn machine r a.state b.state
  turn_goes r a b within (at_hub rank q stamp there inside asks is) =
      hub_goes a r within rank there q stamp asks b (subst (λ v. IsArrived v b.state.cluster) is b.arrived)
  turn_goes r a b within (elsewhere journal e next mine its is leads_there new_is) =
      else_goes a r within leads_there.0 (ap (slice_get a.now.ranks) (sym mine) ∙ leads_there.1) journal e next mine its is
      leads_there.2 leads_there.3 b
      (subst (λ v. IsArrived v b.state.cluster) new_is b.arrived)

  -- where all has arrived behind it
  pub turned : (r : ℕ) (a : WayState search image) (new : WayCluster) → IsWithin search a.state.cluster r
      → WayTurn r (search.harts r) a.now new
      → (b : WayState search image) × (b.now ≡ new)
  unfolding hub_behind else_behind
  turned r a last within (at_hub rank q stamp there inside asks is) =
      (hub_behind a r within rank there q stamp asks, sym is)
  turned r a last within (elsewhere journal e next mine its is leads_there new_is) = (
    else_behind a r within leads_there.0 (ap (slice_get a.now.ranks) (sym mine) ∙ leads_there.1) journal e next mine its
        is leads_there.2 leads_there.3,
    sym new_is,
  )

  pub is_network : IsNetwork machine network
  is_network = record {
    arrives = λ a b one. alike_near a.state b.state (arrival_near a b one.0 one.1 one.3);
    goes = λ r a b within room turn. turn_goes r a b within turn;
  }

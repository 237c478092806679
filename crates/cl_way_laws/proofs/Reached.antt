-- Wherever a run on the way leads, all can arrive, and turns of the machine lead there.
use Rattle.std.proofs.Common.{◌≡◌, ◌∙◌, ℕ, ◌<◌, refl, sym, ap, subst, arith, List, [], ◌∷◌, ◌++◌, length, Some}
use Rattle.std.specs.List.{slice_get}
use Rattle.rv_image_types.specs.declared.images.ImageParts.{ImageParts}
use Rattle.mp_way_laws.specs.Way.{all_arrived}
use Rattle.cl_state.specs.Rank.{Rank, below, loaded}
use Rattle.cl_machine.specs.Cluster.{Cluster, loaded_cluster}
use Rattle.cl_order_laws.specs.Closed.{Node, Plans}
use Rattle.cl_deadlock_laws.proofs.Reached.{comes_reached}
use Rattle.cl_schedule_laws.specs.Machines.{GoesOn, IsMachine, Machine}
use Rattle.cl_schedule_laws.specs.Laws.{IsFound, IsLasting}
use Rattle.cl_reduction_laws.specs.Clusters.{IsWithin, Search, State, cluster_machine}
use Rattle.cl_reduction_laws.proofs.Clusters.{cluster_machine_law}
use Rattle.cl_delay_laws.specs.Networks.{Event, HappenOn, Happens, Network, arrival, turn as turn_of}
use Rattle.cl_delay_laws.specs.Laws.{IsMatched, Lasts, StaysWithin}
use Rattle.cl_delay_laws.proofs.Delays.{are_matched}
use Rattle.cl_contest_laws.specs.Lists.{IsOneOf}
use Rattle.cl_contest_laws.proofs.Homes.{AreHome, home_of}
use Rattle.cl_contest_laws.proofs.Kept.{AreClosed, Anything, anything_lasts, found, kept}
use Rattle.cl_contest_laws.proofs.Lists.{list_closed, planned_of}
use Rattle.cl_contest_laws.proofs.Walks.{IsPlanned}
use Rattle.cl_way_laws.specs.Clusters.{HappensOnWay, IsArrived, IsWayRun, WayCluster, WayEvent, WayTurn, arrives, at_hub, elsewhere, turn, way_loaded}
use Rattle.cl_way_laws.specs.Laws.{IsSearched}
use Rattle.cl_way_laws.specs.Met.{met}
use Rattle.cl_way_laws.proofs.Found.{found_along, found_matched, within_matched}
use Rattle.cl_way_laws.proofs.MetHomes.{all_none, from_map}
use Rattle.cl_way_laws.proofs.MetRanks.{there_met}
use Rattle.cl_way_laws.proofs.Near.{arrived_near, good_too, near_alike}
use Rattle.cl_way_laws.proofs.Named.{NamesApart, apart_first}
use Rattle.cl_way_laws.proofs.Network.{arrived_behind, is_network, network, turned}
use Rattle.cl_way_laws.proofs.Posting.{lines_now}
use Rattle.cl_way_laws.proofs.SameHubs.{same_hub_itself}
use Rattle.cl_way_laws.proofs.States.{WayState}
use Rattle.cl_way_laws.proofs.Sure.{polls_sure}

-- one event more at the end
happened : (m : Machine) (n : Network m) (es : List Event) (e : Event) (a b c : n.State) → HappenOn m n es a b
    → Happens m n e b c
    → HappenOn m n (es ++ e ∷ []) a c
happened m n [] e a b c on one = (c, subst (λ x. Happens m n e x c) on one, refl)
happened m n (x ∷ es) e a b c on one = (on.0, on.1, happened m n es e on.0 b c on.2 one)

pub lasts_of : (m : Machine) (P : m.State → Type 0) → IsLasting m P → Lasts m P
lasts_of m P lasts = record { alike = lasts.alike; ready = lasts.ready }

module _ (search : Search) (plans : Plans) (nodes : List Node) (image : ImageParts)
    (searched : IsSearched search plans nodes image)
  where
    abbrev pub m : Machine
    m = cluster_machine search

    abbrev pub n : Network m
    n = network search image searched.waits

    pub is : IsMachine m
    is = cluster_machine_law search

    abbrev pub planned : IsPlanned search plans
    planned = planned_of search plans (loaded_cluster image) (searched.well).single

    abbrev pub are_closed : AreClosed search (IsOneOf nodes)
    are_closed = list_closed search plans planned nodes searched.closed

    abbrev pub first : State search
    first = record { cluster = loaded_cluster image; good = (searched.well).good }

    -- where the run starts, all has arrived
    abbrev pub first_way : WayState search image
    first_way = record {
      now = way_loaded image;
      state = first;
      arrived = record {
        ranks = sym (all_none (loaded_cluster image).ranks);
        boxes = refl;
        hub = record { links = refl; lines = refl; bodies = refl; claims = refl; sides = refl };
      };
      came = record { events = []; on = refl; named = tt };
      home = home_of image (loaded_cluster image) (comes_reached image [] (loaded_cluster image) refl)
          (searched.well).single.one;
      apart = λ r rank at.
          let f = from_map (loaded image) (below image.ranks) r rank at in
          subst (λ (z : Rank). NamesApart z.requests) f.1 apart_first;
    }

    pub finds : (P : State search → Type 0) → IsLasting m P → (rs : List ℕ) (end : State search)
        → GoesOn m rs first end
        → IsFound m (kept search (IsOneOf nodes)) P end
    finds P lasts rs end walk =
        found search (IsOneOf nodes) are_closed P lasts (searched.settled).0 first end rs (searched.settled).1 walk

    stays : StaysWithin m first
    stays rs end walk = (let f = finds (Anything search) (anything_lasts search) rs end walk in (f.within, f.room))

    -- ---- one event more

    -- events lead here
    pub record Reached (v : WayCluster) : Type 0 where
      pub events : List Event
      pub here : WayState search image
      pub on : HappenOn m n events first_way here
      pub is_here : here.now ≡ v

    pub matched : (v : WayCluster) (k : Reached v) → IsMatched m n (Anything search) first k.here
    matched v k =
        are_matched m n is (polls_sure search) (is_network search image searched.waits) (Anything search)
        (lasts_of m (Anything search) (anything_lasts search)) first_way k.here k.events stays k.on

    pub within_there : (v : WayCluster) (k : Reached v) (r : ℕ) → IsWithin search k.here.state.cluster r
    within_there v k r =
        within_matched m is (polls_sure search) n (Anything search) first k.here stays (matched v k) r

    -- each rank has one hart
    one_hart : (a : WayState search image) (r hart : ℕ) (rank : Rank) → slice_get a.now.ranks r ≡ Some rank
        → hart < length rank.harts → hart ≡ search.harts r
    one_hart a r hart rank there inside =
        let one = (a.home r (met (lines_now a.now.way) rank) (there_met search image a r rank there)).one in
        let none = (searched.well).single.harts r in
        omega (arith, one, none, inside)

    own_hart : (a : WayState search image) (r hart : ℕ) (w : WayCluster) → WayTurn r hart a.now w
        → hart ≡ search.harts r
    own_hart a r hart w (at_hub rank q stamp there inside asks _) = one_hart a r hart rank there inside
    own_hart a r hart w (elsewhere journal e next mine its _ leads new) =
        one_hart a r hart leads.0 (ap (slice_get a.now.ranks) (sym mine) ∙ leads.1)
        (subst (λ k. k < length leads.0.harts) its leads.2)

    one_more : (v : WayCluster) (k : Reached v) (e : WayEvent) (w : WayCluster) → HappensOnWay k.here.now e w
        → Reached w
    one_more v k (turn r hart) w goes =
        let own = subst (λ x. WayTurn r x k.here.now w) (own_hart k.here r hart w goes) goes in
        let b = turned search image searched.waits r k.here w (within_there v k r) own in
        record {
          events = k.events ++ turn_of r ∷ [];
          here = b.0;
          on = happened m n k.events (turn_of r) first_way k.here b.0 k.on
              (subst (λ x. WayTurn r (search.harts r) k.here.now x) (sym b.1) own);
          is_here = b.1;
        }
    one_more v k (arrives place sent) w goes =
        let b = arrived_behind search image searched.waits k.here place sent goes.0 w goes.1 in
        record {
          events = k.events ++ arrival ∷ [];
          here = b.0;
          on = happened m n k.events arrival first_way k.here b.0 k.on (place, sent, goes.0, b.1 ∙ goes.1);
          is_here = b.1;
        }

    pub reached_on : (es : List WayEvent) (v w : WayCluster) → Reached v → IsWayRun v es w → Reached w
    reached_on [] v w k run = subst Reached (sym run) k
    reached_on (e ∷ es) v w k run =
        reached_on es run.0 w
        (one_more v k e run.0 (subst (λ x. HappensOnWay x e run.0) (sym k.is_here) run.1)) run.2

    pub reached : (es : List WayEvent) (w : WayCluster) → IsWayRun (way_loaded image) es w → Reached w
    reached es w run =
        reached_on es (way_loaded image) w (record { events = []; here = first_way; on = refl; is_here = refl }) run

    -- ---- where all has arrived behind a run

    module _ (w : WayCluster) (k : Reached w) where
      pub arrived_there : IsArrived w k.here.state.cluster
      arrived_there = subst (λ v. IsArrived v k.here.state.cluster) k.is_here k.here.arrived

      module _ (c : Cluster) (arrived : IsArrived w c) where
        abbrev pub there : State search
        there = record {
          cluster = c;
          good = good_too search w k.here.state.cluster c arrived_there arrived k.here.state.good;
        }

        pub alike_there : m.Alike there k.here.state
        alike_there =
            near_alike search.wild c k.here.state.cluster (there.good).boxes
            (arrived_near w w c k.here.state.cluster arrived arrived_there refl refl
            (same_hub_itself (all_arrived w.way)))

        -- turns of the machine lead to a node
        pub finds_there : (P : State search → Type 0) → IsLasting m P → IsFound m (kept search (IsOneOf nodes)) P there
        finds_there P lasts =
            let i = matched w k in
            found_along m is (kept search (IsOneOf nodes)) P (lasts_of m P lasts) there k.here.state alike_there
            (found_matched m is (kept search (IsOneOf nodes)) P (lasts_of m P lasts) (polls_sure search) n
            (Anything search) first k.here i
            (finds P lasts i.ranks i.end i.walk))

        pub home_there : AreHome image c
        home_there r rank at =
            k.here.home r rank (ap (λ xs. slice_get xs r) (arrived_there.ranks ∙ sym arrived.ranks) ∙ at)

-- What a search of a program that only waits for named ranks tells of runs with messages on their way.
use Rattle.std.specs.Prelude.{ℕ, ◌≡◌, true, List, [], ◌∷◌}
use Rattle.rv_image_types.specs.declared.images.ImageParts.{ImageParts}
use Rattle.cl_machine.specs.Cluster.{Cluster, loaded_cluster}
use Rattle.cl_order_laws.specs.Closed.{Node, Plans, none_had}
use Rattle.cl_order_laws.specs.Sure.{GoesOn}
use Rattle.cl_outcome_laws.specs.Companies.{IsCompany}
use Rattle.cl_outcome_laws.specs.Laws.{HasCompany}
use Rattle.cl_rest_laws.specs.Buffering.{NeedBuffers}
use Rattle.cl_reduction_laws.specs.Below.{AreAlike, Turn}
use Rattle.cl_reduction_laws.specs.Clusters.{IsReadyPoll, Search, awake_cluster}
use Rattle.cl_reduction_laws.specs.Settled.{IsSettled}
use Rattle.cl_contest_laws.specs.Laws.{HasAlikeEnd, HasNeed}
use Rattle.cl_contest_laws.specs.Lists.{IsClosedByContest, IsOneOf, StartsWell}
use Rattle.cl_way_laws.specs.Clusters.{IsArrived, IsWayEnd, IsWayRun, WayCluster, WayEvent, way_loaded}
use Rattle.cl_contests.specs.Waiting.{OnlyWaits}

abbrev pub loaded_node : ImageParts → Node
loaded_node image = record { cluster = loaded_cluster image; had = none_had }

-- a search of the image that left no state, of a program that only waits for named ranks
pub record IsSearched (search : Search) (plans : Plans) (nodes : List Node) (image : ImageParts) : Type 0 where
  pub waits : OnlyWaits search
  pub well : StartsWell search plans (loaded_cluster image)
  pub settled : IsSettled search (IsOneOf nodes) (loaded_cluster image)
  pub closed : IsClosedByContest search plans nodes

-- ---- runs

-- each of these ranks in turn polls its own RECV, whose message is there, or its own SSEND, whose receive is
abbrev pub PollsOn : Search → List ℕ → Cluster → Cluster → Type 0
PollsOn search [] old new = new ≡ old
PollsOn search (r ∷ rs) old new =
    IsReadyPoll search old r × (mid : Cluster) × Turn r (search.harts r) old mid × PollsOn search rs mid new

-- turns of the machine on which messages arrive at once lead from the start to what is alike this cluster, once some
-- ranks have polled whose messages are there
pub record IsRunAtOnce (search : Search) (plans : Plans) (image : ImageParts) (c : Cluster) : Type 0 where
  pub ranks : List ℕ
  pub last : Node
  pub walk : GoesOn plans ranks (loaded_node image) last
  pub polls : List ℕ
  pub there : Cluster
  pub polled : PollsOn search polls c there
  pub alike : AreAlike search.wild (awake_cluster there) (awake_cluster last.cluster)

-- ---- the law

-- of every run with messages on their way from the loaded cluster, and of the cluster in which all has arrived that is
-- on its way in the end
pub record WayClusterLaw : Type 0 where
  -- there is such a cluster
  pub arrives : (search : Search) (plans : Plans) (nodes : List Node) (image : ImageParts)
      → IsSearched search plans nodes image → (es : List WayEvent) (w : WayCluster) → IsWayRun (way_loaded image) es w
      → (c : Cluster) × IsArrived w c
  -- the run is one of the machine on which messages arrive at once
  pub runs : (search : Search) (plans : Plans) (nodes : List Node) (image : ImageParts)
      → IsSearched search plans nodes image → (es : List WayEvent) (w : WayCluster) → IsWayRun (way_loaded image) es w
      → (c : Cluster) → IsArrived w c
      → IsRunAtOnce search plans image c
  -- where nobody goes on after it and nothing is on its way, a node at which nobody goes on is alike
  pub ends : (search : Search) (plans : Plans) (nodes : List Node) (image : ImageParts)
      → IsSearched search plans nodes image → (es : List WayEvent) (w : WayCluster) → IsWayRun (way_loaded image) es w
      → IsWayEnd w → (c : Cluster) → IsArrived w c
      → HasAlikeEnd search plans nodes c
  -- ranks that are stuck whatever of that arrives are stuck at some node
  pub companies : (search : Search) (plans : Plans) (nodes : List Node) (image : ImageParts)
      → IsSearched search plans nodes image → (es : List WayEvent) (w : WayCluster) → IsWayRun (way_loaded image) es w
      → (c : Cluster) → IsArrived w c → (ranks : List ℕ) → IsCompany ranks c
      → HasCompany ranks nodes
  -- and ranks that need buffers need them at some node, where standard sends may wait for their receives
  pub buffering : (search : Search) (plans : Plans) (nodes : List Node) (image : ImageParts)
      → IsSearched search plans nodes image → search.may_wait ≡ true → (es : List WayEvent) (w : WayCluster)
      → IsWayRun (way_loaded image) es w → (c : Cluster) → IsArrived w c → (ranks : List ℕ) → NeedBuffers ranks c
      → HasNeed ranks nodes

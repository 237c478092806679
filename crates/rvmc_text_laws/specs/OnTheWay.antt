-- What `, also with messages on their way` says in the last line of `explore`.
use Rattle.std.specs.Prelude.{ℕ, ◌≡◌, Bool, true, List, [], length}
use Rattle.rv_image_types.specs.Image.{IsImage}
use Rattle.rv_image_types.specs.declared.images.ImageParts.{ImageParts}
use Rattle.cl_machine.specs.Cluster.{Cluster}
use Rattle.cl_moves.specs.Standing.{by_order}
use Rattle.cl_outcome_laws.specs.Companies.{IsCompany}
use Rattle.cl_outcome_laws.specs.Laws.{HasCompany}
use Rattle.cl_rest_laws.specs.Buffering.{NeedBuffers}
use Rattle.cl_contests.specs.Below.{Contest}
use Rattle.cl_way_laws.specs.Clusters.{IsArrived, IsWayEnd, IsWayRun, WayCluster, WayEvent, way_loaded}
use Rattle.cl_way_laws.specs.Laws.{IsRunAtOnce}
use Rattle.cl_explore.specs.Below.{AreBelow}
use Rattle.cl_explore.specs.Ends.{Findings}
use Rattle.rvmc_explore.specs.OneList.{TellsEnd}
use Rattle.rvmc_explore.specs.Outcomes.{IsListOf}
use Rattle.rvmc_explore.specs.declared.outcomes.Outcome.{Outcome}

-- a run on the network, where each message is on its way until it arrives; and the cluster in which all has arrived that is on its
-- way behind it
pub record IsOnTheWay (image : ImageParts) (events : List WayEvent) (w : WayCluster) (c : Cluster) : Type 0 where
  pub run : IsWayRun (way_loaded image) events w
  pub arrived : IsArrived w c

-- a search that left no state, in which ranks only wait for named ranks: then the last line has these words
pub record SaysOnTheWay (found : Findings) : Type 0 where
  pub all : found.left ≡ 0
  pub named : found.only_waits ≡ true

-- of each list in whose last line the words stand
pub record OnTheWayLaw : Type 0 where
  -- behind each run on the network there is a cluster in which all has arrived, and the run is one of the machine on which
  -- messages arrive as soon as they are sent, but for polls
  pub runs : (image : ImageParts) (order : List ℕ) (buffered : Bool) (states turns : ℕ) (told : List Outcome)
      → (listed : IsListOf image order buffered states turns told) → SaysOnTheWay listed.found
      → (events : List WayEvent) (w : WayCluster) → IsWayRun (way_loaded image) events w
      → (c : Cluster) × IsArrived w c × ((contest : Contest) × IsRunAtOnce contest (by_order order) image c)
  -- where nobody goes on and nothing is on its way, the list tells the end
  pub ends : (image : ImageParts) (order : List ℕ) (buffered : Bool) (states turns : ℕ) (told : List Outcome)
      → (listed : IsListOf image order buffered states turns told) → SaysOnTheWay listed.found
      → (events : List WayEvent) (w : WayCluster) (c : Cluster) → IsOnTheWay image events w c → IsWayEnd w
      → TellsEnd image order buffered states turns told listed c
  -- ranks that are stuck on the network, whatever arrives, are stuck at a node that was found
  pub stuck : (image : ImageParts) (order : List ℕ) (buffered : Bool) (states turns : ℕ) (told : List Outcome)
      → (listed : IsListOf image order buffered states turns told) → SaysOnTheWay listed.found
      → (events : List WayEvent) (w : WayCluster) (c : Cluster) → IsOnTheWay image events w c
      → (ranks : List ℕ) → IsCompany ranks c
      → HasCompany ranks (((listed.searched).explored).nodes)
  -- so none are if the search found none
  pub none_stuck : (image : ImageParts) (order : List ℕ) (buffered : Bool) (states turns : ℕ) (told : List Outcome)
      → (listed : IsListOf image order buffered states turns told) → SaysOnTheWay listed.found
      → IsImage image → length (listed.found).companies ≡ 0
      → (events : List WayEvent) (w : WayCluster) (c : Cluster) → IsOnTheWay image events w c
      → (ranks : List ℕ) → AreBelow ranks image.ranks → ¬ IsCompany ranks c
  -- and no ranks need buffers on the network if standard sends might wait in the search
  pub none_need : (image : ImageParts) (order : List ℕ) (buffered : Bool) (states turns : ℕ) (told : List Outcome)
      → (listed : IsListOf image order buffered states turns told) → SaysOnTheWay listed.found
      → IsImage image → (listed.found).may_wait ≡ true
      → (events : List WayEvent) (w : WayCluster) (c : Cluster) → IsOnTheWay image events w c
      → (ranks : List ℕ) → AreBelow ranks image.ranks → ¬ NeedBuffers ranks c

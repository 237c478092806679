-- A list of a program whose ranks only wait for named ranks, with messages on their way.
use Rattle.std.specs.Prelude.{ℕ, ◌≡◌, Bool, true, List, [], length, slice_get, Some}
use Rattle.std.proofs.Common.{refl, sym, subst, arith, inl, inr}
use Rattle.std.proofs.lemmas.Option.{slice_get_within}
use Rattle.rv_image_types.specs.Image.{IsImage}
use Rattle.rv_image_types.specs.declared.images.ImageParts.{ImageParts}
use Rattle.cl_machine.specs.Cluster.{Cluster}
use Rattle.cl_deadlock_laws.proofs.Reached.{comes_reached}
use Rattle.cl_order_laws.specs.Closed.{Node}
use Rattle.cl_moves.specs.Standing.{IsWay, by_order, first_node}
use Rattle.cl_outcome_laws.specs.Companies.{IsCompany}
use Rattle.cl_outcome_laws.specs.Laws.{HasCompany}
use Rattle.cl_rest_laws.specs.Buffering.{NeedBuffers}
use Rattle.cl_contests.specs.Below.{Contest}
use Rattle.cl_way_laws.specs.Clusters.{IsArrived, IsWayEnd, IsWayRun, WayCluster, WayEvent, way_loaded}
use Rattle.cl_way_laws.specs.Laws.{IsSearched as IsSearchedBy}
use Rattle.cl_way_laws.proofs.Told.{way_cluster_law}
use Rattle.cl_explore.specs.Below.{AreBelow}
use Rattle.cl_explore.specs.Covering.{IsClosedAt, Reaches}
use Rattle.cl_explore.specs.Ends.{Explored, IsVisitedNode}
use Rattle.cl_explore.specs.How.{How, IsFitFor, MayBegin, MayWaitIn, OnlyWaitIn, at_once, by_contest, plainly}
use Rattle.rvmc_explore.specs.OneList.{TellsEnd}
use Rattle.rvmc_explore.specs.Outcomes.{IsListOf}
use Rattle.rvmc_explore.specs.declared.outcomes.Outcome.{Outcome}
use Rattle.rvmc_explore.proofs.EndTexts.{found_way}
use Rattle.rvmc_explore.proofs.OneList.{tells_alike}
use Rattle.rvmc_text_laws.specs.OnTheWay.{IsOnTheWay, OnTheWayLaw, SaysOnTheWay}

-- the search as the law has it, where it went so
record Named (how : How) (order : List ℕ) (image : ImageParts) (nodes : List Node) : Type 0 where
  search : Contest
  searched : IsSearchedBy search (by_order order) nodes image
  waits : MayWaitIn how → search.may_wait ≡ true

named_by : (how : How) (order : List ℕ) (image : ImageParts) (nodes : List Node) → OnlyWaitIn how
    → Reaches how order nodes (first_node image) → MayBegin how order (first_node image)
    → ((i r : ℕ) (node : Node) → slice_get nodes i ≡ Some node → IsClosedAt how order nodes node r)
    → ((i : ℕ) (node : Node) → slice_get nodes i ≡ Some node → IsFitFor how node.cluster)
    → Named how order image nodes
named_by plainly order image nodes only reaches begins closed fit = absurd only
named_by at_once order image nodes only reaches begins closed fit = absurd only
named_by (by_contest contest) order image nodes only reaches begins closed fit = record {
  search = contest;
  searched = record {
    waits = only;
    well = begins;
    settled = reaches;
    closed = record { closed = λ i r node rank at has. closed i r node at rank has; fit = fit };
  };
  waits = λ is. is;
}

module _ (image : ImageParts) (order : List ℕ) (buffered : Bool) (states turns : ℕ) (told : List Outcome)
    (listed : IsListOf image order buffered states turns told) (says : SaysOnTheWay listed.found) where
  abbrev explored : Explored image order listed.found
  explored = (listed.searched).explored

  abbrev nodes : List Node
  nodes = explored.nodes

  visited : (i : ℕ) (node : Node) → slice_get nodes i ≡ Some node → IsVisitedNode nodes (listed.found).left i node
  visited i node at =
      let inside = slice_get_within nodes i node at in
      let all = says.all in
      (omega (arith, inside, all), at)

  named : Named explored.how order image nodes
  named =
      named_by explored.how order image nodes (explored.named says.named) explored.start_is explored.begins
      (λ i r node at. explored.closed i r node (visited i node at)) (λ i node at. explored.fit i node (visited i node at))

  pub arrives : (events : List WayEvent) (w : WayCluster) → IsWayRun (way_loaded image) events w → (c : Cluster) × IsArrived w c
  arrives = way_cluster_law.arrives named.search (by_order order) nodes image named.searched

  pub ends : (events : List WayEvent) (w : WayCluster) (c : Cluster) → IsOnTheWay image events w c → IsWayEnd w
      → TellsEnd image order buffered states turns told listed c
  ends events w c on end =
      let v = way_cluster_law.ends named.search (by_order order) nodes image named.searched events w on.run end c on.arrived in
      let k = explored.told v.0 v.1 (visited v.0 v.1 v.2) v.3 in
      tells_alike image order buffered states turns told listed c k.0 v.0 v.1 k.1 v.2 ((named.search).wild, v.4)

  pub stuck : (events : List WayEvent) (w : WayCluster) (c : Cluster) → IsOnTheWay image events w c → (ranks : List ℕ)
      → IsCompany ranks c
      → HasCompany ranks nodes
  stuck events w c on =
      way_cluster_law.companies named.search (by_order order) nodes image named.searched events w on.run c on.arrived

  -- each node has as many ranks as the image
  same_count : (ranks : List ℕ) → AreBelow ranks image.ranks → (i : ℕ) (node : Node) → slice_get nodes i ≡ Some node
      → AreBelow ranks (length node.cluster.ranks)
  same_count ranks below i node at =
      let way = found_way image order (first_node image) listed.found explored i node at in
      subst (AreBelow ranks) (sym (comes_reached image way.0 node.cluster (way.1).run).count) below

  pub none_stuck : IsImage image → length (listed.found).companies ≡ 0 → (events : List WayEvent) (w : WayCluster) (c : Cluster)
      → IsOnTheWay image events w c → (ranks : List ℕ) → AreBelow ranks image.ranks → ¬ IsCompany ranks c
  none_stuck limits none events w c on ranks below company =
      let at = stuck events w c on ranks company in
      elim (explored.judged limits at.0 at.1 (visited at.0 at.1 at.2)) [
        | inl found_none ↦ found_none ranks (same_count ranks below at.0 at.1 at.2) at.3.stuck at.3.waits
        | inr noted ↦
            let low = slice_get_within (listed.found).companies noted.0 noted.1 noted.2 in absurd (omega (arith, low, none))
      ]

  pub none_need : IsImage image → (listed.found).may_wait ≡ true → (events : List WayEvent) (w : WayCluster) (c : Cluster)
      → IsOnTheWay image events w c → (ranks : List ℕ) → AreBelow ranks image.ranks → ¬ NeedBuffers ranks c
  none_need limits waiting events w c on ranks below need =
      let waits = named.waits (explored.waits waiting) in
      let at = way_cluster_law.buffering named.search (by_order order) nodes image named.searched waits events w on.run c on.arrived ranks need in
      explored.unneeded limits waiting at.0 at.1 (visited at.0 at.1 at.2) ranks (same_count ranks below at.0 at.1 at.2) at.3

pub on_the_way_law : OnTheWayLaw
on_the_way_law = record {
  runs = λ image order buffered states turns told listed says events w run.
      let its = named image order buffered states turns told listed says in
      let c = arrives image order buffered states turns told listed says events w run in (
        c.0,
        c.1,
        (
          its.search,
          way_cluster_law.runs its.search (by_order order) (((listed.searched).explored).nodes) image its.searched events w run c.0 c.1,
        ),
      );
  ends = λ image order buffered states turns told listed says. ends image order buffered states turns told listed says;
  stuck = λ image order buffered states turns told listed says. stuck image order buffered states turns told listed says;
  none_stuck = λ image order buffered states turns told listed says.
      none_stuck image order buffered states turns told listed says;
  none_need = λ image order buffered states turns told listed says.
      none_need image order buffered states turns told listed says;
}

-- Nodes that are kept, and standings at them.
use Rattle.std.specs.Prelude.{ℕ, zero, suc, ◌<◌, ◌≡◌, List, [], ◌∷◌, ◌++◌, length, slice_get, Some}
use Rattle.std.proofs.Common.{refl, sym, ap, ◌∙◌, subst, arith}
use Rattle.std.proofs.lemmas.Option.{same_Some, slice_get_within}
use Rattle.rv_image_types.specs.declared.images.ImageParts.{ImageParts}
use Rattle.cl_machine.specs.Cluster.{Cluster, IsRun}
use Rattle.cl_machine.specs.declared.steps.Step.{Step}
use Rattle.cl_replay.specs.Kept.{RanksAt, snapshot, with_hub}
use Rattle.cl_machine.specs.Keys.{ShowsAll}
use Rattle.cl_replay.proofs.Same.{same_stands, snapshot_same}
use Rattle.cl_order_laws.specs.Alike.{hub_of}
use Rattle.cl_order_laws.specs.Closed.{FollowPlans, Node, Plans, Turns, had_after, one_more}
use Rattle.cl_order_laws.specs.Laws.{IsReached}
use Rattle.cl_moves.specs.Standing.{HaveHad, IsWay, StandsAt, by_order, first_node}
use Rattle.cl_moves.specs.declared.standing.Standing.{Standing}
use Rattle.cl_explore.specs.Kept.{cluster_of, IsBefore, IsFound, IsKeptOf, IsLed, IsLiveOf, KeptStandsAt}
use Rattle.cl_explore.specs.Covering.{AreNodes}
use Rattle.cl_explore.proofs.Lists.{at_inside}
use Rattle.cl_explore.specs.declared.kept.KeptNode.{KeptNode}

-- the hub of all posts ever made is the cluster's
kept_cluster : (image : ImageParts) (standing : Standing) (parent : ℕ) (kept : KeptNode) (node : Node)
    → IsKeptOf standing parent kept → StandsAt image standing node → cluster_of kept ≡ snapshot standing.cluster
kept_cluster image standing parent kept node is at =
    let journal = node.cluster.journal in
    let its : standing.cluster.hub ≡ hub_of journal =
    (at.stands).hub_stands ∙ ap (λ links. hub_of (record journal { links = links })) (sym ((at.stands).of).links) in
    let hub : kept.whole ≡ standing.cluster.hub = is.whole ∙ (at.whole ∙ sym its) in
    λ i. with_hub (is.cluster i) (hub i)

pub kept_stands : (image : ImageParts) (standing : Standing) (parent : ℕ) (kept : KeptNode) (node : Node)
    → IsKeptOf standing parent kept → StandsAt image standing node → KeptStandsAt image kept node
kept_stands image standing parent kept node is at = record {
  of = (at.stands).of;
  ranks_are = (at.stands).ranks_are ∙ sym (ap (λ (k : RanksAt). k.ranks) is.cluster);
  boxes_show = subst (λ (k : RanksAt). ShowsAll image k.boxes node.cluster.boxes) (sym is.cluster) (at.stands).boxes_show;
  whole = is.whole ∙ at.whole;
  stands = λ state same.
      same_stands standing.cluster state
      (snapshot_same standing.cluster state (same ∙ kept_cluster image standing parent kept node is at)) image
      node.cluster at.stands;
  had = subst (λ counts. HaveHad counts node.had) (sym is.had) at.had;
  each = ap length is.had ∙ at.each;
  few = at.few;
}

pub live_stands : (image : ImageParts) (kept : KeptNode) (standing : Standing) (node : Node) → IsLiveOf kept standing
    → KeptStandsAt image kept node → StandsAt image standing node
live_stands image kept standing node is at = record {
  stands = at.stands standing.cluster is.cluster;
  whole = is.whole ∙ at.whole;
  had = subst (λ counts. HaveHad counts node.had) (sym is.had) at.had;
  each = ap length is.had ∙ at.each;
  few = at.few;
}

-- ---- ways

runs_on : (es fs : List Step) (a b c : Cluster) → IsRun a es b → IsRun b fs c → IsRun a (es ++ fs) c
runs_on [] fs a b c first second = subst (λ k. IsRun k fs c) first second
runs_on (e ∷ es) fs a b c first second = (first.0, first.1, runs_on es fs first.0 b c first.2 second)

follow_on : (plans : Plans) (had : Turns) (es fs : List Step) → FollowPlans plans had es
    → FollowPlans plans (had_after had es) fs → FollowPlans plans had (es ++ fs)
follow_on plans had [] fs first second = second
follow_on plans had (e ∷ es) fs first second = (first.0, follow_on plans (one_more had e.rank) es fs first.1 second)

after_on : (had : Turns) (es fs : List Step) → had_after had (es ++ fs) ≡ had_after (had_after had es) fs
after_on had [] fs = refl
after_on had (e ∷ es) fs = after_on (one_more had e.rank) es fs

pub way_on : (plans : Plans) (a b c : Node) (es fs : List Step) → IsWay plans a es b → IsWay plans b fs c
    → IsWay plans a (es ++ fs) c
way_on plans a b c es fs first second = record {
  run = runs_on es fs a.cluster b.cluster c.cluster first.run second.run;
  follow = follow_on plans a.had es fs first.follow (subst (λ had. FollowPlans plans had fs) first.had second.follow);
  had = second.had ∙ (ap (λ (had : Turns). had_after had fs) first.had ∙ sym (after_on a.had es fs));
}

pub no_way : (plans : Plans) (here : Node) (steps : List Step) → steps ≡ [] → IsWay plans here steps here
no_way plans here steps none = subst (λ es. IsWay plans here es here) (sym none)
    (record { run = refl; follow = tt; had = refl })

pub found_on : (image : ImageParts) (order : List ℕ) (here there : Node) (steps : List Step) → IsFound image order here
    → IsWay (by_order order) here steps there → IsFound image order there
found_on image order here there steps found way =
    (found.0 ++ steps, way_on (by_order order) (first_node image) here there found.0 steps found.1 way)

pub found_reached : (image : ImageParts) (order : List ℕ) (node : Node) → IsFound image order node → IsReached node.cluster
found_reached image order node found = (image, found.0, (found.1).run)

-- ---- how nodes were found

-- a node of the list has one of which another was found
pub before_at : (image : ImageParts) (nodes : List Node) (n : ℕ) (node : Node) → slice_get nodes n ≡ Some node
    → IsBefore image nodes n (length nodes) node
before_at image [] n node at = absurd (cc)
before_at image (x ∷ nodes) n node at = (slice_get_within (x ∷ nodes) n node at, at)

before_more : (image : ImageParts) (nodes more : List Node) (parent i : ℕ) (before : Node)
    → ((j : ℕ) (node : Node) → slice_get nodes j ≡ Some node → slice_get more j ≡ Some node)
    → IsBefore image nodes parent i before → IsBefore image more parent i before
before_more image nodes more parent zero before grows is = is
before_more image nodes more parent (suc i) before grows is = (is.0, grows parent before is.1)

pub led_more : (image : ImageParts) (order : List ℕ) (nodes more : List Node) (i : ℕ) (kept : KeptNode) (node : Node)
    → ((j : ℕ) (node : Node) → slice_get nodes j ≡ Some node → slice_get more j ≡ Some node)
    → IsLed image order nodes i kept node → IsLed image order more i kept node
led_more image order nodes more i kept node grows led = record {
  before = led.before;
  from = before_more image nodes more kept.parent i led.before grows led.from;
  way = led.way;
}

module _ (image : ImageParts) (order : List ℕ) (kept : List KeptNode) (nodes : List Node)
    (are : AreNodes image order kept nodes) where
  -- what is kept of a node, and what led to it
  pub led_at : (i : ℕ) (node : Node) → slice_get nodes i ≡ Some node
      → (k : KeptNode) × (slice_get kept i ≡ Some k) × KeptStandsAt image k node × IsLed image order nodes i k node
  led_at i node at =
      let inside = slice_get_within nodes i node at in
      let k = at_inside kept i (subst (λ c. i < c) are.many inside) in
      let v = are.each i k.0 k.1 in
      let same : v.0 ≡ node = same_Some v.0 node (sym v.1 ∙ at) in
      (k.0, k.1, subst (KeptStandsAt image k.0) same v.2, subst (IsLed image order nodes i k.0) same v.3)

  -- that from which a node is found was found, where each earlier node was
  found_before : (i parent : ℕ) (before : Node) → IsBefore image nodes parent i before
      → ((node : Node) → parent < i → slice_get nodes parent ≡ Some node → IsFound image order node)
      → IsFound image order before
  found_before zero parent before is below =
      subst (IsFound image order) (sym is) ([], no_way (by_order order) (first_node image) [] refl)
  found_before (suc i) parent before is below = below before is.0 is.1

  -- below so many each node was found
  found_below : (n i : ℕ) (node : Node) → i < n → slice_get nodes i ≡ Some node → IsFound image order node
  found_below zero i node low at = absurd (omega (arith, low))
  found_below (suc n) i node low at =
      let v = led_at i node at in
      let led = v.3 in
      let start = found_before i (v.0).parent led.before led.from
      (λ x less there. found_below n (v.0).parent x (omega (arith, less, low)) there) in
      found_on image order led.before node (v.0).turns start led.way

  pub node_found : (i : ℕ) (node : Node) → slice_get nodes i ≡ Some node → IsFound image order node
  node_found i node at = found_below (suc i) i node (omega (arith)) at

  -- and so was that from which one more is found
  pub start_found : (parent : ℕ) (before here : Node) (steps : List Step)
      → IsBefore image nodes parent (length nodes) before → IsWay (by_order order) before steps here
      → IsFound image order here
  start_found parent before here steps is way =
      let start = found_before (length nodes) parent before is (λ x less there. node_found parent x there) in
      found_on image order before here steps start way

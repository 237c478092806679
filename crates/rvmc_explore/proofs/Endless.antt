-- What the findings of a search say of runs of any length.
use Rattle.std.proofs.Common.{ℕ, zero, suc, ◌≡◌, ◌<◌, ◌==◌, ◌⊎◌, ◌∙◌, List, [], ◌∷◌, length, map, Bool, true, false, IsTrue, Some, slice_get, inl, inr, refl, sym, subst, ap, arith, get_or}
use Rattle.std.specs.Prelude.{◌%◌, ◌&&◌, ◌||◌, IfNone, Option, None, is_some, not}
use Rattle.std.specs.List.{list_any}
use Rattle.std.proofs.lemmas.Bool.{and_from, eq-eqb, eqb-true, or_cases}
use Rattle.std.proofs.lemmas.List.Elements.{All-get_or}
use Rattle.std.proofs.lemmas.List.Folds.{list_any-append, list_any_at}
use Rattle.std.proofs.Math.Nat.{mod-lt}
use Rattle.std.proofs.lemmas.Option.{get_or_from_slice_get, same_Some, slice_get-get_or, slice_get_within}
use Rattle.rv_image_types.specs.Image.{IsImage}
use Rattle.rv_image_types.specs.declared.images.ImageParts.{ImageParts}
use Rattle.cl_state.specs.Rank.{Rank, below}
use Rattle.cl_machine.specs.Cluster.{Cluster, IsRun, loaded_cluster}
use Rattle.cl_machine.specs.declared.steps.Step.{Step}
use Rattle.cl_explore.specs.Below.{no_renaming}
use Rattle.cl_order_laws.specs.Alike.{hub_of}
use Rattle.cl_order_laws.specs.Closed.{FollowPlans, IsEnd, Node, Plans, Turns, one_more}
use Rattle.cl_order_laws.specs.Sure.{GoesOn}
use Rattle.cl_order_laws.proofs.Likeness.{itself}
use Rattle.cl_order_laws.proofs.Walks.{walk_of}
use Rattle.cl_outcome_laws.specs.Companies.{IsCompany}
use Rattle.cl_outcome_laws.specs.Graphs.{AreAlikeNodes, Edges, HasPosts, HaveHarts, IsGraph, IsTrap, HasRoom as HasRoomIn, Reaches as ReachesIn}
use Rattle.cl_outcome_laws.specs.Laws.{HasCompany}
use Rattle.cl_outcome_laws.specs.Unending.{IsAfter, MayEnd, NeverEnds}
use Rattle.cl_outcome_laws.proofs.Companies.{company_law}
use Rattle.cl_outcome_laws.proofs.Unending.{unending_law}
use Rattle.cl_explore.specs.Below.{AreBelow}
use Rattle.cl_deadlock_laws.specs.Stuck.{IsReachable, is_among}
use Rattle.cl_rest_laws.specs.Buffering.{NeedBuffers}
use Rattle.cl_rest_laws.proofs.Ends.{end_law}
use Rattle.cl_deadlock_laws.proofs.Reached.{comes_reached, same_harts}
use Rattle.cl_explore.specs.Below.{IsOrder, in_slot}
use Rattle.cl_moves.specs.Posts.{most_posts}
use Rattle.cl_moves.specs.Standing.{IsWay, by_order, first_node, node_of}
use Rattle.cl_explore.specs.Below.{Contest}
use Rattle.cl_explore.specs.Below.{IsContestGraph, IsGood}
use Rattle.cl_explore.proofs.Below.{contest_law, good_law, never_ends_law}
use Rattle.cl_explore.specs.How.{AreAlikeFor, HasRoom, How, IsFitFor, MayBegin, MayWaitIn, at_once, by_contest, plainly}
use Rattle.cl_explore.specs.Covering.{AreJoined, HasLead, IsClosedAt, IsClosedFrom, Reaches}
use Rattle.cl_explore.specs.Ends.{ExploredFrom, Findings, IsVisitedNode}
use Rattle.cl_explore.specs.declared.leads.Lead.{Lead}
use Rattle.cl_explore.proofs.Covers.{lead_of}
use Rattle.cl_explore.proofs.Keeping.{node_found}
use Rattle.cl_explore.proofs.Lists.{at_inside}
use Rattle.rvmc_explore.specs.Endless.{AllMayEnd, AreComplete, NeverNeeds, NeverStuck, SaysEndsAnyway, SaysNoneNeed, SaysNoneStuck, SaysUnendingOf}
use Rattle.rvmc_explore.specs.Hanging.{EachGoes}
use Rattle.rvmc_explore.specs.InnerGoing.{TellsEndless}
use Rattle.rvmc_explore.specs.Marks.{TellsMarkedAlone}
use Rattle.rvmc_explore.specs.Searched.{AreSound, GoesIn}

-- ---- moves as edges

abbrev is_between : ℕ → ℕ → Lead → Bool
is_between i j lead = (lead.from == i) && (lead.to == j)

abbrev edges_of : List Lead → Edges
edges_of leads i j = list_any (is_between i j) leads

both : (a b : Bool) → (a && b) ≡ true → (a ≡ true) × (b ≡ true)
both true b is = (refl, is)
both false b is = absurd (cc)

edge_lead : (leads : List Lead) (i j : ℕ) → edges_of leads i j ≡ true → HasLead leads i j
edge_lead [] i j is = absurd (cc)
edge_lead (lead ∷ leads) i j is = of (λ rest. edge_lead leads i j rest) (is_between i j lead) refl
  where
    of : (edges_of leads i j ≡ true → HasLead leads i j) → (b : Bool) → is_between i j lead ≡ b
        → HasLead (lead ∷ leads) i j
    of among true here =
        let v = both (lead.from == i) (lead.to == j) here in
        (0, lead, refl, eqb-true lead.from i v.0, eqb-true lead.to j v.1)
    of among false other =
        let rest = among (sym (ap (λ b. b || edges_of leads i j) other) ∙ is) in
        (suc rest.0, rest.1, rest.2, rest.3, rest.4)

lead_edge : (leads : List Lead) (i j : ℕ) → HasLead leads i j → edges_of leads i j ≡ true
lead_edge leads i j led =
    let lead = led.1 in
    list_any_at (is_between i j) leads led.0 lead (slice_get_within leads led.0 lead led.2)
    (ap (is_between i j) (get_or_from_slice_get leads led.0 lead lead led.2)
    ∙ and_from (lead.from == i) (lead.to == j) (eq-eqb lead.from i led.3) (eq-eqb lead.to j led.4))

-- ---- what was found, as a graph

-- the ranks need buffers at one of the nodes
abbrev NeedAt : List ℕ → List Node → Type 0
NeedAt ranks nodes = (i : ℕ) × (node : Node) × (slice_get nodes i ≡ Some node) × NeedBuffers ranks node.cluster

-- with calls for what is there made at once, or without
abbrev how_by : Bool → How
how_by true = at_once
how_by false = plainly

as_reaches : (sure : Bool) (order : List ℕ) (nodes : List Node) (here : Node) → Reaches (how_by sure) order nodes here
    → ReachesIn sure (by_order order) most_posts nodes here
as_reaches true order nodes here reaches = reaches
as_reaches false order nodes here reaches = reaches

as_nodes : (sure : Bool) (order : List ℕ) (one other : Node) → AreAlikeFor (how_by sure) order one other
    → AreAlikeNodes (by_order order) one other
as_nodes true order one other alike = alike
as_nodes false order one other alike = alike

as_room : (sure : Bool) (cluster : Cluster) → HasRoom (how_by sure) (hub_of cluster.journal)
    → HasRoomIn sure most_posts cluster
as_room true cluster room = room
as_room false cluster room = tt

as_posts : (sure : Bool) (cluster : Cluster) → HasRoom (how_by sure) (hub_of cluster.journal)
    → HasPosts sure most_posts cluster
as_posts true cluster room = omega (arith, room)
as_posts false cluster room = tt

-- what is known of a search that is whole, however turns are taken at once
record Whole (how : How) (image : ImageParts) (order : List ℕ) (start : Node) (nodes : List Node) (leads : List Lead)
    : Type 0 where
  start_is : Reaches how order nodes start
  begins : MayBegin how order start
  room : HasRoom how (hub_of start.cluster.journal)
  follows : (i r : ℕ) (node : Node) → slice_get nodes i ≡ Some node → IsClosedFrom how order leads i nodes node r
  closed : (i r : ℕ) (node : Node) → slice_get nodes i ≡ Some node → IsClosedAt how order nodes node r
  few : (i : ℕ) (node : Node) → slice_get nodes i ≡ Some node → HasRoom how (hub_of node.cluster.journal)
  fit : (i : ℕ) (node : Node) → slice_get nodes i ≡ Some node → IsFitFor how node.cluster
  joined : (i j : ℕ) (from to : Node) → IsTrue (edges_of leads i j) → slice_get nodes i ≡ Some from
      → slice_get nodes j ≡ Some to
      → (there : Node) × IsAfter (by_order order) from there × AreAlikeFor how order there to
  reached : (i : ℕ) (node : Node) → slice_get nodes i ≡ Some node
      → (steps : List Step) × IsWay (by_order order) (first_node image) steps node

module _ (image : ImageParts) (order : List ℕ) (start : Node) (nodes : List Node) (leads : List Lead) where
  abbrev plans : Plans
  plans = by_order order

  abbrev them : Edges
  them = edges_of leads

  graph_by : (sure : Bool) → Whole (how_by sure) image order start nodes leads → IsGraph sure plans most_posts nodes them
  graph_by sure whole = record {
    closed = λ i r node rank at has. elim (whole.follows i r node at rank has) [
      | inl done ↦ inl done
      | inr moves ↦ inr (λ e new is hart turn.
          let f = moves e new is hart turn in
          record {
            j = f.number;
            to = f.next;
            edge = lead_edge leads i f.number (lead_of leads r i f.number f.led);
            there = f.there;
            reaches = as_reaches sure order (f.next ∷ []) (node_of new (one_more node.had r)) f.reaches;
          })
    ];
    room = λ i node at. as_room sure node.cluster (whole.few i node at);
    leads = λ i j from to edge here there.
        let l = whole.joined i j from to edge here there in (l.0, l.1, as_nodes sure order l.0 to l.2);
    itself = λ i node at.
        let way = whole.reached i node at in (no_renaming, itself node.cluster (image, way.0, (way.1).run));
  }

  contest_graph : (contest : Contest) → Whole (by_contest contest) image order start nodes leads
      → IsContestGraph contest plans nodes them
  contest_graph contest whole = record {
    closed = λ i r node rank at has. elim (whole.follows i r node at rank has) [
      | inl done ↦ inl done
      | inr moves ↦ inr (λ e new is hart turn.
          let f = moves e new is hart turn in
          record {
            j = f.number;
            to = f.next;
            edge = lead_edge leads i f.number (lead_of leads r i f.number f.led);
            there = f.there;
            settles = f.reaches;
          })
    ];
    fit = whole.fit;
    leads = whole.joined;
    well = λ i node at. let way = whole.reached i node at in (image, way.0, (way.1).run);
  }

  -- ---- what follows of it

  -- a node is good, since a run led there
  good_at : (contest : Contest) → Whole (by_contest contest) image order start nodes leads → (i : ℕ) (node : Node)
      → slice_get nodes i ≡ Some node → IsGood contest node.cluster
  good_at contest whole i node at =
      let way = whole.reached i node at in
      let fit = whole.fit i node at in
      good_law contest image node.cluster (way.0, (way.1).run) fit.waits fit.stands

  never_by : (how : How) → Whole how image order start nodes leads → (inside : ℕ → Bool) → IsTrap plans nodes them inside
      → (i : ℕ) (node : Node) → IsTrue (inside i) → slice_get nodes i ≡ Some node → NeverEnds plans node
  never_by at_once whole inside trap =
      unending_law.never true plans most_posts nodes them inside (graph_by true whole) trap
  never_by plainly whole inside trap =
      unending_law.never false plans most_posts nodes them inside (graph_by false whole) trap
  never_by (by_contest contest) whole inside trap = λ i node is at.
      never_ends_law.never contest plans nodes them inside start whole.begins (contest_graph contest whole) trap i node is at
      (good_at contest whole i node at)

  path_by : (how : How) → Whole how image order start nodes leads → (i j : ℕ) (from to : Node) → IsTrue (them i j)
      → slice_get nodes i ≡ Some from → slice_get nodes j ≡ Some to → MayEnd plans to → MayEnd plans from
  path_by at_once whole = unending_law.path true plans most_posts nodes them (graph_by true whole)
  path_by plainly whole = unending_law.path false plans most_posts nodes them (graph_by false whole)
  path_by (by_contest contest) whole = λ i j from to edge here there.
      never_ends_law.path contest plans nodes them start whole.begins (contest_graph contest whole) i j from to edge here there
      (good_at contest whole i from here)

  may_by : (how : How) → Whole how image order start nodes leads → HaveHarts plans start.cluster
      → ((i : ℕ) (node : Node) → slice_get nodes i ≡ Some node → MayEnd plans node) → AllMayEnd order start
  may_by at_once whole harts =
      unending_law.may true plans most_posts nodes them start (graph_by true whole)
      (as_reaches true order nodes start whole.start_is) (as_posts true start.cluster whole.room) harts
  may_by plainly whole harts =
      unending_law.may false plans most_posts nodes them start (graph_by false whole)
      (as_reaches false order nodes start whole.start_is) (as_posts false start.cluster whole.room) harts
  may_by (by_contest contest) whole harts =
      never_ends_law.may contest plans nodes them start whole.begins whole.start_is (contest_graph contest whole)

  company_by : (how : How) → Whole how image order start nodes leads → (steps : List Step) (end : Cluster)
      → IsRun start.cluster steps end → FollowPlans plans start.had steps → (ranks : List ℕ) → IsCompany ranks end
      → HasCompany ranks nodes
  company_by at_once whole =
      company_law.at_once plans most_posts nodes start whole.start_is (let room = whole.room in omega (arith, room))
      (record { each = λ i r node rank at has. whole.closed i r node at rank has; few = whole.few })
  company_by plainly whole =
      company_law.covered plans nodes start whole.start_is
      (record { each = λ i r node rank at has. whole.closed i r node at rank has })
  company_by (by_contest contest) whole =
      contest_law.companies contest plans nodes start whole.begins whole.start_is
      (record { closed = λ i r node rank at has. whole.closed i r node at rank has; fit = whole.fit })

  -- ranks that need buffers where a run leads do so at some node, if standard sends might wait
  need_by : (how : How) → MayWaitIn how → Whole how image order start nodes leads → (steps : List Step) (end : Cluster)
      → IsRun start.cluster steps end → FollowPlans plans start.had steps → (ranks : List ℕ) → NeedBuffers ranks end
      → NeedAt ranks nodes
  need_by at_once waits whole = absurd waits
  need_by plainly waits whole = absurd waits
  need_by (by_contest contest) waits whole =
      contest_law.buffering contest plans nodes start whole.begins whole.start_is
      (record { closed = λ i r node rank at has. whole.closed i r node at rank has; fit = whole.fit }) waits

-- whether no mark of the node of this number is left out
abbrev marked : List Bool → ℕ → Bool
marked marks i = get_or marks i true

module _ (image : ImageParts) (order : List ℕ) (start : Node) (found : Findings)
    (explored : ExploredFrom image order start found) (all : found.left ≡ 0) where
  abbrev nodes : List Node
  nodes = explored.nodes

  visited : (i : ℕ) (node : Node) → slice_get nodes i ≡ Some node → IsVisitedNode nodes found.left i node
  visited i node at = (let inside = slice_get_within nodes i node at in omega (arith, inside, all), at)

  reached : (i : ℕ) (node : Node) → slice_get nodes i ≡ Some node
      → (steps : List Step) × IsWay (by_order order) (first_node image) steps node
  reached i node at = node_found image order found.kept nodes explored.are i node at

  abbrev edges : Edges
  edges = edges_of found.leads

  after_way : (from there : Node) (steps : List Step) → IsWay (by_order order) from steps there
      → IsAfter (by_order order) from there
  after_way from there steps way = (
    map (λ (e : Step). e.rank) steps,
    subst (λ (had : Turns). GoesOn (by_order order) (map (λ (e : Step). e.rank) steps) from (node_of there.cluster had))
        (sym way.had)
        (walk_of (by_order order) steps from.cluster there.cluster from.had way.run way.follow),
  )

  whole : Whole explored.how image order start nodes found.leads
  whole = record {
    start_is = explored.start_is;
    begins = explored.begins;
    room = explored.room;
    follows = λ i r node at. explored.follows i r node (visited i node at);
    closed = λ i r node at. explored.closed i r node (visited i node at);
    few = λ i node at. explored.few i node (visited i node at);
    fit = λ i node at. explored.fit i node (visited i node at);
    joined = λ i j from to edge here there.
        let led = edge_lead found.leads i j edge in
        let v = explored.leads led.0 led.1 led.2 in
        let first : v.0 ≡ from =
        same_Some v.0 from (sym v.2 ∙ (ap (slice_get nodes) led.3 ∙ here)) in
        let second : v.1 ≡ to =
        same_Some v.1 to (sym v.3 ∙ (ap (slice_get nodes) led.4 ∙ there)) in
        let joined = subst (λ n. AreJoined explored.how order (led.1).rank n to) first
        (subst (λ n. AreJoined explored.how order (led.1).rank v.0 n) second v.4) in
        (joined.there, after_way from joined.there joined.steps joined.way, joined.alike);
    reached = reached;
  }

  -- where moves lead from a node to an end, turns do
  pub end_may : (i : ℕ) (node : Node) (n : ℕ) → slice_get nodes i ≡ Some node → GoesIn found.leads found.ends n i
      → MayEnd (by_order order) node
  end_may i node zero at goes =
      let e = explored.sound goes.0 i goes.1 in
      let same : e.0 ≡ node = same_Some e.0 node (sym e.1 ∙ at) in
      (node, ([], refl), subst (λ (x : Node). IsEnd (by_order order) x.cluster) same e.2)
  end_may i node (suc n) at goes =
      let led = goes.1 in
      let v = explored.leads led.0 led.1 led.2 in
      let there : slice_get nodes goes.0 ≡ Some v.1 = ap (slice_get nodes) (sym led.4) ∙ v.3 in
      path_by image order start nodes found.leads explored.how whole i goes.0 node v.1
      (lead_edge found.leads i goes.0 led) at there (end_may goes.0 v.1 n there goes.2)

  -- ---- nodes that aren't marked lead to no end

  module _ (marks : List Bool) (many : length marks ≡ length found.kept)
      (complete : AreComplete found.leads found.ends marks) where
    abbrev inside : ℕ → Bool
    inside i = not (marked marks i)

    is_node : (i : ℕ) (node : Node) → slice_get nodes i ≡ Some node → i < length marks
    is_node i node at =
        let low = slice_get_within nodes i node at in omega (arith, low, many, explored.are.many)

    -- a mark that is there is set, or stands for an inner node
    not_inside : (i : ℕ) → slice_get marks i ≡ Some true → inside i ≡ true → ⊥
    not_inside i at is =
        let set : marked marks i ≡ true = get_or_from_slice_get marks i true true at in
        let no : not true ≡ true = sym (ap not set) ∙ is in absurd (cc)

    within_or_marked : (i : ℕ) → i < length marks → (b : Bool) → marked marks i ≡ b
        → (inside i ≡ true) ⊎ (slice_get marks i ≡ Some true)
    within_or_marked i low true set = inr (slice_get-get_or marks i true low ∙ ap Some set)
    within_or_marked i low false unset = inl (ap not unset)

    trap : IsTrap (by_order order) nodes edges inside
    trap = record {
      stays = λ i j is edge.
          let led = edge_lead found.leads i j edge in
          let v = explored.leads led.0 led.1 led.2 in
          let low : i < length marks =
          is_node i v.0 (ap (slice_get nodes) (sym led.3) ∙ v.2) in
          let other : j < length marks =
          is_node j v.1 (ap (slice_get nodes) (sym led.4) ∙ v.3) in
          elim (within_or_marked j other (marked marks j) refl) [
            | inl inner ↦ inner
            | inr set ↦ absurd (not_inside i (complete.before i j led set low) is)
          ];
      no_end = λ i node is at end.
          let k = explored.told i node (visited i node at) end in
          not_inside i (complete.at k.0 i k.1 (is_node i node at)) is;
    }

    -- from a node that isn't marked none leads there
    pub never_ends : (i : ℕ) (node : Node) → slice_get nodes i ≡ Some node → (slice_get marks i ≡ Some true → ⊥)
        → NeverEnds (by_order order) node
    never_ends i node at unset = elim (within_or_marked i (is_node i node at) (marked marks i) refl) [
      | inl is ↦ never_by image order start nodes found.leads explored.how whole inside trap i node is at
      | inr set ↦ absurd (unset set)
    ]

    -- ---- where each is marked

    pub all_may_end : AreSound found.leads found.ends marks
        → ((i : ℕ) → i < length marks → slice_get marks i ≡ Some true) → HaveHarts (by_order order) start.cluster
        → AllMayEnd order start
    all_may_end sound each harts =
        may_by image order start nodes found.leads explored.how whole harts
        (λ i node at. let goes = sound i (each i (is_node i node at)) in end_may i node goes.0 at goes.1)

  -- ---- ranks that are stuck

  pub never_stuck : IsImage image → length found.companies ≡ 0 → NeverStuck image order start
  never_stuck limits none = λ steps end run follow ranks below company.
      let at = company_by image order start nodes found.leads explored.how whole steps end run follow ranks company in
      let way = reached at.0 at.1 at.2 in
      let count = (comes_reached image way.0 at.1.cluster (way.1).run).count in
      elim (explored.judged limits at.0 at.1 (visited at.0 at.1 at.2)) [
        | inl found_none ↦
            found_none ranks (subst (AreBelow ranks) (sym count) below) at.3.stuck at.3.waits
        | inr noted ↦
            let low = slice_get_within found.companies noted.0 noted.1 noted.2 in absurd (omega (arith, low, none))
      ]

  -- ---- ranks that need buffers

  pub never_needs : IsImage image → found.may_wait ≡ true → NeverNeeds image order start
  never_needs limits waiting = λ steps end run follow ranks below need.
      let waits = explored.waits waiting in
      let at = need_by image order start nodes found.leads explored.how waits whole steps end run follow ranks need in
      let way = reached at.0 at.1 at.2 in
      let count = (comes_reached image way.0 at.1.cluster (way.1).run).count in
      explored.unneeded limits waiting at.0 at.1 (visited at.0 at.1 at.2) ranks
      (subst (AreBelow ranks) (sym count) below) at.3

-- ---- ends where sends wait

below_low : (n : ℕ) → AreBelow (below n) n
below_low zero = λ r is. absurd (cc)
below_low (suc n) = λ r is.
    let either = sym (list_any-append (λ k. k == r) (below n) (n ∷ [])) ∙ is in
    elim (or_cases (is_among (below n) r) (is_among (n ∷ []) r) either) [
      | inl before ↦ (let low = below_low n r before in omega (arith, low))
      | inr last ↦ elim (or_cases (n == r) false last) [
        | inl same ↦ (let e = eqb-true n r same in omega (arith, e))
        | inr off ↦ absurd (cc)
      ]
    ]

-- each rank has one hart, which takes all its turns
record IsOfOneHart (order : List ℕ) (cluster : Cluster) : Type 0 where
  plans_are : (r n : ℕ) → by_order order r n ≡ 0
  one : (r : ℕ) (rank : Rank) → slice_get cluster.ranks r ≡ Some rank → length rank.harts ≡ 1

-- a search in which standard sends might wait begins there
begins_single : (how : How) (order : List ℕ) (start : Node) → MayWaitIn how → MayBegin how order start
    → IsOfOneHart order start.cluster
begins_single at_once order start waits begins = absurd waits
begins_single plainly order start waits begins = absurd waits
begins_single (by_contest contest) order start waits begins =
    record { plans_are = (begins.single).plans_are; one = (begins.single).one }

-- the image says so too: it has a rank at least
one_hart : (image : ImageParts) (cluster : Cluster) → IsImage image → IsReachable image cluster
    → ((r : ℕ) (rank : Rank) → slice_get cluster.ranks r ≡ Some rank → length rank.harts ≡ 1) → image.harts ≡ 1
one_hart image cluster limits reached one =
    let comes = comes_reached image reached.0 cluster reached.1 in
    let some = limits.has_ranks in
    let count = comes.count in
    let first = at_inside cluster.ranks 0 (omega (arith, some, count)) in
    let run = comes.alone 0 first.0 first.1 in
    sym (same_harts image 0 run.0 first.0 run.1) ∙ one 0 first.0 first.1

-- ---- as it is said

-- from the loaded cluster on
pub says_ends_anyway : (image : ImageParts) (order : List ℕ) (found : Findings) → IsImage image
    → ExploredFrom image order (first_node image) found → SaysEndsAnyway order (first_node image) found.left found.may_wait
says_ends_anyway image order found limits explored all waiting = λ steps end run follow ends.
    let single = begins_single explored.how order (first_node image) (explored.waits waiting) explored.begins in
    let count = (comes_reached image steps end run).count in
    elim (end_law image (by_order order) end limits
    (one_hart image (loaded_cluster image) limits ([], refl) single.one) single.plans_are (steps, run) ends) [
      | inl is ↦ is
      | inr need ↦
          let ranks = below (length end.ranks) in
          absurd (never_needs image order (first_node image) found explored all limits waiting steps end run follow ranks
          (subst (AreBelow ranks) count (below_low (length end.ranks))) need)
    ]

pub says_none_need : (image : ImageParts) (order : List ℕ) (start : Node) (found : Findings) → IsImage image
    → ExploredFrom image order start found → SaysNoneNeed image order start found.left found.may_wait
says_none_need image order start found limits explored all waiting =
    never_needs image order start found explored all limits waiting

pub says_none_stuck : (image : ImageParts) (order : List ℕ) (start : Node) (found : Findings) → IsImage image
    → ExploredFrom image order start found → SaysNoneStuck image order start found.left found.companies
says_none_stuck image order start found limits explored all none = never_stuck image order start found explored all limits none

-- an order of harts that are there names only such, wherever a run leads
have_harts : (image : ImageParts) (order : List ℕ) (cluster : Cluster) → IsReachable image cluster
    → IsOrder image.harts order → HaveHarts (by_order order) cluster
have_harts image order cluster reached harts = λ r n rank at.
    let inside : n % length order < length order = mod-lt n harts.named in
    let low : in_slot order n < image.harts =
    All-get_or (λ number. number < image.harts) order (n % length order) 0 inside harts.there in
    let run = (comes_reached image reached.0 cluster reached.1).alone r rank at in
    let many = same_harts image r run.0 rank run.1 in
    omega (arith, low, many)

-- where states are left, nothing is said
pub says_nothing : (found : Findings) → 0 < found.left → SaysUnendingOf found false
says_nothing found left = λ image order start reached explored all harts. absurd (omega (arith, left, all))

-- marks of the nodes that lead to an end, beside marks of all nodes: one that isn't among the first leads to none
pub tells_endless : (found : Findings) (marks all : List Bool) (node : Option ℕ) → found.left ≡ 0
    → length marks ≡ length found.kept → length all ≡ length found.kept
    → ((i : ℕ) → i < length all → slice_get all i ≡ Some true)
    → AreSound found.leads found.ends marks → AreComplete found.leads found.ends marks → TellsMarkedAlone all marks node
    → TellsEndless found node
tells_endless found marks all (Some i) whole many as_many each sound complete is =
    let low = slice_get_within all i true is.0 in (
      omega (arith, low, as_many),
      λ image order start explored.
          let node = at_inside explored.nodes i (omega (arith, low, as_many, explored.are.many)) in (
            node.0,
            node.1,
            never_ends image order start found explored whole marks many complete i node.0 node.1 is.1,
          ),
    )
tells_endless found marks all None whole many as_many each sound complete is = λ image order start reached explored none harts.
    all_may_end image order start found explored whole marks many complete sound
    (λ i low. let inside : i < length all = omega (arith, low, many, as_many) in is i inside (each i inside))
    (have_harts image order start.cluster reached harts)

-- so some runs go on for ever where one is told, and else each can still end
pub says_unending : (found : Findings) (node : Option ℕ) → TellsEndless found node → SaysUnendingOf found (is_some node)
says_unending found None tells = tells
says_unending found (Some i) tells = λ image order start reached explored.
    let there = tells.1 image order start explored in
    let way = node_found image order found.kept explored.nodes explored.are i there.0 there.1 in
    record { steps = way.0; there = there.0; way = way.1; never = there.2 }

-- the same of moves
pub each_goes : (found : Findings) (node : Option ℕ) → IfNone node (found.left ≡ 0 → EachGoes found) → is_some node ≡ false
    → found.left ≡ 0 → EachGoes found
each_goes found None goes none = goes
each_goes found (Some i) goes none = absurd (cc)

pub none_goes : (found : Findings) (marks all : List Bool) (node : Option ℕ) → length all ≡ length found.kept
    → ((i : ℕ) → i < length all → slice_get all i ≡ Some true) → AreSound found.leads found.ends marks
    → TellsMarkedAlone all marks node → IfNone node (found.left ≡ 0 → EachGoes found)
none_goes found marks all None as_many each sound is = λ whole i low.
    let inside : i < length all = omega (arith, low, as_many) in sound i (is i inside (each i inside))
none_goes found marks all (Some i) as_many each sound is = tt

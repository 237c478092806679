-- Where runs can still end, and where none does.
use Rattle.std.proofs.Common.{◌≡◌, ℕ, refl, sym, subst, List, ◌++◌, map, Bool, Some}
use Rattle.std.specs.Prelude.{IsTrue}
use Rattle.std.specs.List.{slice_get}
use Rattle.cl_machine.specs.declared.steps.Step.{Step}
use Rattle.cl_machine.specs.Cluster.{Cluster, IsRun}
use Rattle.cl_order_laws.specs.Closed.{FollowPlans, IsEnd, Node, Plans, Turns, had_after}
use Rattle.cl_order_laws.specs.Sure.{GoesOn as GoesOnBy}
use Rattle.cl_order_laws.proofs.Covered.{node_of}
use Rattle.cl_order_laws.proofs.Walks.{walk_of}
use Rattle.cl_outcome_laws.specs.Graphs.{Edges, IsTrap}
use Rattle.cl_outcome_laws.specs.Unending.{MayEnd, NeverEnds}
use Rattle.cl_outcome_laws.proofs.Paths.{may_after}
use Rattle.cl_schedule_laws.proofs.Walks.{along}
use Rattle.cl_reduction_laws.specs.Below.{AreAlike}
use Rattle.cl_reduction_laws.specs.Clusters.{IsGood, Search, State, cluster_machine}
use Rattle.cl_reduction_laws.specs.Settled.{IsSettled, Settles}
use Rattle.cl_reduction_laws.proofs.Awake.{clusters_awake}
use Rattle.cl_reduction_laws.proofs.Clusters.{cluster_machine_law}
use Rattle.cl_contest_laws.specs.Laws.{NeverEndsLaw}
use Rattle.cl_contest_laws.specs.Lists.{IsClosedByContest, IsContestGraph, IsOneOf, StartsWell}
use Rattle.cl_contest_laws.proofs.Asleep.{asleep}
use Rattle.cl_contest_laws.proofs.Contest.{came, finds_node, node_alike}
use Rattle.cl_contest_laws.proofs.Ends.{rest_too}
use Rattle.cl_contest_laws.proofs.Good.{good_alike}
use Rattle.cl_contest_laws.proofs.Kept.{AreClosed, Anything}
use Rattle.cl_contest_laws.proofs.Lists.{IsInside, all_rest, graph_closed, inside_closed, is_end, list_closed, planned_of}
use Rattle.cl_contest_laws.proofs.Rest.{Alike, alike_back}
use Rattle.cl_contest_laws.proofs.Walks.{IsPlanned, arrives_node, by_plans, walked, walks_on}

-- a node settles, by itself
node_settles : (search : Search) (Is : Cluster → Type 0) → AreClosed search Is → (node : State search) → Is node.cluster
    → Settles search Is 0 node.cluster
node_settles search Is nodes node is =
    (λ r. (nodes.fit node.cluster is).within r, (node.cluster, is, (cluster_machine_law search).itself node))

-- ---- the same cluster

end_at : (plans : Plans) (c d : Cluster) → c ≡ d → IsEnd plans d → IsEnd plans c
end_at plans c d same is = subst (IsEnd plans) (sym same) is

starts_at : (plans : Plans) (rs : List ℕ) (had : Turns) (c d : Cluster) (last : Node) → c ≡ d
    → GoesOnBy plans rs (node_of c had) last
    → GoesOnBy plans rs (node_of d had) last
starts_at plans rs had c d last same walk = subst (λ k. GoesOnBy plans rs (node_of k had) last) same walk

-- ---- a run from where a search began

module _ (search : Search) (plans : Plans) (nodes : List Node) (edges : Edges) (start : Node)
    (well : StartsWell search plans start.cluster) (graph : IsContestGraph search plans nodes edges) where
  abbrev planned : IsPlanned search plans
  planned = planned_of search plans start.cluster well.single

  abbrev closed : IsClosedByContest search plans nodes
  closed = graph_closed search plans planned nodes edges graph

  -- ---- from inside a trap

  module _ (inside : ℕ → Bool) (trap : IsTrap plans nodes edges inside) (i : ℕ) (node : Node) (is : IsTrue (inside i))
      (there : slice_get nodes i ≡ Some node) (good : IsGood search node.cluster) where
    abbrev Is : Cluster → Type 0
    Is = IsInside search plans planned nodes edges graph inside trap.stays

    abbrev all : AreClosed search Is
    all = inside_closed search plans planned nodes edges graph inside trap.stays

    never : NeverEnds plans node
    never last after end =
        let here : State search = record { cluster = node.cluster; good = good } in
        let settles = node_settles search Is all here (i, node, there, refl, is) in
        let w = walked search plans planned Is all 0 here settles after.0 node last refl after.1 in
        let f = arrives_node search plans planned Is all 0 here settles after.0 last.cluster w in
        let rest = all_rest search plans planned w.last.cluster (end_at plans w.last.cluster last.cluster w.is end) in
        let k = node_alike search Is (Anything search) w.last f rest in
        let to : Is f.node.cluster = f.is in
        let rests = rest_too search (well.single).harts w.last f.node k (all.fit f.node.cluster to) rest in
        trap.no_end to.0 to.1 to.4 to.2
        (subst (IsEnd plans) (sym to.3) (is_end search plans planned f.node.cluster rests))

  -- ---- where nodes may end

  abbrev every : AreClosed search (IsOneOf nodes)
  every = list_closed search plans planned nodes closed

  -- from what is alike a node from which turns lead to an end, some do too
  module _ (node : State search) (at : IsOneOf nodes node.cluster) (ends : MayEnd plans at.1) where
    may_too : (d : State search) → Alike search d node → (here : Node) → here.cluster ≡ d.cluster → MayEnd plans here
    may_too d alike here is =
        let rs = (ends.1).0 in
        let settles = node_settles search (IsOneOf nodes) every node at in
        let w = walked search plans planned (IsOneOf nodes) every 0 node settles rs at.1 ends.0 (sym at.3) (ends.1).1 in
        let there = arrives_node search plans planned (IsOneOf nodes) every 0 node settles rs (ends.0).cluster w in
        let rest = all_rest search plans planned w.last.cluster
        (end_at plans w.last.cluster (ends.0).cluster w.is ends.2) in
        let t = along (cluster_machine search) (cluster_machine_law search) rs node d w.last
        (alike_back search d node alike) w.walk w.inside in
        let s = asleep search w.last there.within rest t.last t.alike in
        let ranks = rs ++ s.0 in
        let g = by_plans search plans planned ranks d s.1 here.had
        (walks_on search plans planned rs s.0 d t.last s.1 t.walk s.2) in (
          g.0,
          (ranks, starts_at plans ranks here.had d.cluster here.cluster g.0 (sym is) g.1),
          end_at plans (g.0).cluster (s.1).cluster g.2 (is_end search plans planned (s.1).cluster s.3),
        )

  -- along an edge
  module _ (i j : ℕ) (from to : Node) (edge : IsTrue (edges i j)) (here : slice_get nodes i ≡ Some from)
      (there : slice_get nodes j ≡ Some to) (good : IsGood search from.cluster) where
    path : MayEnd plans to → MayEnd plans from
    path ends =
        let first : State search = record { cluster = from.cluster; good = good } in
        let l = graph.leads i j from to edge here there in
        let settles = node_settles search (IsOneOf nodes) every first (i, from, here, refl) in
        let w = walked search plans planned (IsOneOf nodes) every 0 first settles (l.1).0 from l.0 refl (l.1).1 in
        let alike = clusters_awake search.wild w.last.cluster to.cluster
        (subst (λ k. AreAlike search.wild k to.cluster) (sym w.is) l.2) in
        let node : State search =
        record {
          cluster = to.cluster;
          good = good_alike search w.last.cluster to.cluster alike w.last.good (graph.fit j to there).stands;
        } in
        may_after plans from l.0 l.1 (may_too node (j, to, there, refl) ends w.last alike l.0 (sym w.is))

  -- wherever a run leads
  module _ (settled : IsSettled search (IsOneOf nodes) start.cluster)
      (each : (i : ℕ) (node : Node) → slice_get nodes i ≡ Some node → MayEnd plans node) (steps : List Step) (end : Cluster) (run : IsRun start.cluster steps end)
      (follow : FollowPlans plans start.had steps) where
    abbrev had : Turns
    had = had_after start.had steps

    may : MayEnd plans (node_of end had)
    may =
        let ranks = map (λ (e : Step). e.rank) steps in
        let walk = walk_of plans steps start.cluster end start.had run follow in
        let c = came search plans nodes start well settled closed ranks (node_of end had) walk in
        let f = finds_node search plans nodes start well settled closed ranks (node_of end had) walk in
        let at : IsOneOf nodes f.node.cluster = f.is in
        let g = by_plans search plans planned f.more c.last f.there had f.walk in
        may_after plans (node_of end had) g.0 (f.more, starts_at plans f.more had c.last.cluster end g.0 c.is g.1)
        (may_too f.node at (each at.0 at.1 at.2) f.there f.alike g.0 g.2)

pub never_ends_law : NeverEndsLaw
never_ends_law = record {
  never = λ search plans nodes edges inside start well graph trap i node is there good.
      never search plans nodes edges start well graph inside trap i node is there good;
  path = λ search plans nodes edges start well graph i j from to edge here there good.
      path search plans nodes edges start well graph i j from to edge here there good;
  may = λ search plans nodes edges start well settled graph each steps end run follow.
      may search plans nodes edges start well graph settled each steps end run follow;
}

-- Where runs can still end, and where none does.
use Rattle.std.proofs.Common.{◌≡◌, ℕ, inl, inr, List, [], ◌∷◌, map, Bool, true, false, Some, refl}
use Rattle.std.specs.Prelude.{IsTrue}
use Rattle.std.specs.List.{slice_get}
use Rattle.cl_machine.specs.declared.steps.Step.{Step}
use Rattle.cl_machine.specs.Cluster.{Cluster, IsRun}
use Rattle.cl_order_laws.specs.Closed.{FollowPlans, IsClosed, Node, Plans, had_after, one_more}
use Rattle.cl_order_laws.specs.Sure.{Goes, GoesOn, HasPostsWithin, IsClosedAtOnce, IsSure}
use Rattle.cl_order_laws.proofs.AtOnce.{walk_holds}
use Rattle.cl_order_laws.proofs.Covered.{covered_among, node_of}
use Rattle.cl_order_laws.proofs.Walks.{Covers, walk_of}
use Rattle.cl_outcome_laws.specs.Graphs.{Edges, HasPosts, HaveHarts, IsGraph, IsTrap, Reaches}
use Rattle.cl_outcome_laws.specs.Laws.{UnendingLaw}
use Rattle.cl_outcome_laws.specs.Unending.{MayEnd, NeverEnds}
use Rattle.cl_outcome_laws.proofs.CatchUp.{harts_covers, harts_turn, harts_walk, may_back}
use Rattle.cl_outcome_laws.proofs.Paths.{may_after, may_follow, mirror}
use Rattle.cl_outcome_laws.proofs.Traps.{covers_among, never_covered, never_settled, settled_among, walk_covered}

never : (sure : Bool) (plans : Plans) (most : ℕ) (nodes : List Node) (edges : Edges) (inside : ℕ → Bool)
    → IsGraph sure plans most nodes edges → IsTrap plans nodes edges inside
    → (i : ℕ) (node : Node) → IsTrue (inside i) → slice_get nodes i ≡ Some node
    → NeverEnds plans node
never true plans most nodes edges inside graph trap i node is there =
    never_settled plans most nodes edges inside trap graph i node is there
never false plans most nodes edges inside graph trap i node is there =
    never_covered plans most nodes edges inside trap graph i node is there

path : (sure : Bool) (plans : Plans) (most : ℕ) (nodes : List Node) (edges : Edges) → IsGraph sure plans most nodes edges
    → (i j : ℕ) (from to : Node) → IsTrue (edges i j) → slice_get nodes i ≡ Some from → slice_get nodes j ≡ Some to
    → MayEnd plans to → MayEnd plans from
path sure plans most nodes edges graph i j from to edge here there may =
    let l = graph.leads i j from to edge here there in
    may_after plans from l.0 l.1 (may_follow plans l.0 to (mirror plans l.0 to l.2) may)

-- ---- from wherever a run leads

module _ (plans : Plans) (most : ℕ) (nodes : List Node) (edges : Edges)
    (each : (i : ℕ) (node : Node) → slice_get nodes i ≡ Some node → MayEnd plans node) where
  -- ---- by coverage

  module _ (graph : IsGraph false plans most nodes edges) where
    closed : IsClosed plans nodes
    closed = record {
      each = λ i r node rank there has. elim (graph.closed i r node rank there has) [
        | inl done ↦ inl done
        | inr moves ↦ inr (λ e new at hart leads.
            let edge = moves e new at hart leads in
            covers_among plans nodes edge.to (record { cluster = new; had = one_more node.had r })
            (edge.j, edge.there) edge.reaches)
      ];
    }

    may_covered : (start there : Node) (rs : List ℕ) → Reaches false plans most nodes start
        → HaveHarts plans start.cluster → GoesOn plans rs start there → MayEnd plans there
    may_covered start there rs reaches harts walk =
        let cov = walk_covered plans nodes closed rs start there reaches walk in
        may_back plans cov.node there (covered_among plans nodes (cov.node ∷ []) there cov (0, refl))
        (harts_walk plans rs start there walk harts) (each cov.index cov.node cov.there)

  -- ---- with turns of sure ranks taken at once

  module _ (graph : IsGraph true plans most nodes edges) where
    closed_at_once : IsClosedAtOnce plans most nodes
    closed_at_once = record {
      each = λ i r node rank there has. elim (graph.closed i r node rank there has) [
        | inl done ↦ inl done
        | inr moves ↦ inr (λ e new at hart leads.
            let edge = moves e new at hart leads in
            settled_among plans most nodes edge.to (record { cluster = new; had = one_more node.had r })
            (edge.j, edge.there) edge.reaches)
      ];
      few = graph.room;
    }

    -- of plans whose harts are there
    abbrev MayIfThere : Node → Type 0
    MayIfThere here = HaveHarts plans here.cluster → MayEnd plans here

    may_if_back : (node here : Node) → Covers plans node here → MayIfThere node → MayIfThere here
    may_if_back node here covers may harts =
        may_back plans node here covers harts (may (harts_covers plans node here covers harts))

    may_if_before : (r : ℕ) (here new : Node) → IsSure plans most here r → Goes plans r here new
        → HasPostsWithin most new.cluster → MayIfThere new → MayIfThere here
    may_if_before r here new sure turn within may harts =
        may_after plans here new (r ∷ [], (new, turn, refl)) (may (harts_turn plans r here new turn harts))

    may_settled : (start there : Node) (rs : List ℕ) → Reaches true plans most nodes start
        → HasPostsWithin most start.cluster → HaveHarts plans start.cluster → GoesOn plans rs start there
        → MayEnd plans there
    may_settled start there rs reaches within harts walk =
        walk_holds plans most MayIfThere may_if_back may_if_before nodes closed_at_once
        (λ i node there harts. each i node there) rs start there reaches within walk
        (harts_walk plans rs start there walk harts)

may : (sure : Bool) (plans : Plans) (most : ℕ) (nodes : List Node) (edges : Edges) (start : Node)
    → IsGraph sure plans most nodes edges → Reaches sure plans most nodes start → HasPosts sure most start.cluster
    → HaveHarts plans start.cluster
    → ((i : ℕ) (node : Node) → slice_get nodes i ≡ Some node → MayEnd plans node)
    → (steps : List Step) (end : Cluster) → IsRun start.cluster steps end → FollowPlans plans start.had steps
    → MayEnd plans (record { cluster = end; had = had_after start.had steps })
may true plans most nodes edges start graph reaches posts harts each steps end run follow =
    may_settled plans most nodes edges each graph start (node_of end (had_after start.had steps))
    (map (λ (e : Step). e.rank) steps) reaches posts harts (walk_of plans steps start.cluster end start.had run follow)
may false plans most nodes edges start graph reaches posts harts each steps end run follow =
    may_covered plans most nodes edges each graph start (node_of end (had_after start.had steps))
    (map (λ (e : Step). e.rank) steps) reaches harts (walk_of plans steps start.cluster end start.had run follow)

pub unending_law : UnendingLaw
unending_law = record { never = never; path = path; may = may }

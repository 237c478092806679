-- From inside a trap no turns lead to an end.
use Rattle.std.proofs.Common.{◌≡◌, ℕ, zero, suc, ◌≤◌, inl, inr, List, [], ◌∷◌, Bool, true, false, cond, Some, refl, sym, subst, arith}
use Rattle.std.specs.List.{slice_get}
use Rattle.cl_order_laws.specs.Closed.{IsClosed, IsCovered, IsEnd, Node, Plans, one_more}
use Rattle.cl_order_laws.specs.Sure.{Goes, GoesOn, HasPostsWithin, IsClosedAtOnce, IsSettledBy, IsSure, Settles}
use Rattle.cl_order_laws.proofs.AtOnce.{walk_holds}
use Rattle.cl_order_laws.proofs.Covered.{IsOne, covered_among, only_one, step_covered}
use Rattle.cl_order_laws.proofs.Deadlocks.{ends_law}
use Rattle.cl_order_laws.proofs.Ends.{end_alike}
use Rattle.cl_order_laws.proofs.Splits.{by_alike}
use Rattle.cl_order_laws.proofs.Walks.{Covers, posts, stepped, turn_posts}
use Rattle.cl_outcome_laws.specs.Graphs.{Edges, HasEdge, IsGraph, IsTrap}
use Rattle.cl_outcome_laws.specs.Unending.{NeverEnds}

-- ---- the nodes that a test names

chosen : (ℕ → Bool) → List Node → List Node
chosen inside [] = []
chosen inside (node ∷ nodes) =
    cond (inside 0) (node ∷ chosen (λ i. inside (suc i)) nodes) (chosen (λ i. inside (suc i)) nodes)

-- one of them, by its number in the list
abbrev Named : (ℕ → Bool) → List Node → Node → Type 0
Named inside nodes node = (i : ℕ) × (inside i ≡ true) × (slice_get nodes i ≡ Some node)

is_chosen : (inside : ℕ → Bool) (nodes : List Node) (node : Node) → Named inside nodes node
    → IsOne (chosen inside nodes) node
unfolding chosen
is_chosen inside [] node (i, is, there) = absurd (cc)
is_chosen inside (first ∷ nodes) node (zero, is, there) =
    subst (λ b. IsOne (cond b (first ∷ chosen (λ i. inside (suc i)) nodes) (chosen (λ i. inside (suc i)) nodes)) node)
    (sym is) (0, there)
is_chosen inside (first ∷ nodes) node (suc i, is, there) =
    go (inside 0) (is_chosen (λ k. inside (suc k)) nodes node (i, is, there))
  where
    go : (b : Bool) → IsOne (chosen (λ i. inside (suc i)) nodes) node
        → IsOne (cond b (first ∷ chosen (λ i. inside (suc i)) nodes) (chosen (λ i. inside (suc i)) nodes)) node
    go true one = (suc one.0, one.1)
    go false one = one

was_chosen : (inside : ℕ → Bool) (nodes : List Node) (k : ℕ) (node : Node) → slice_get (chosen inside nodes) k ≡ Some node
    → Named inside nodes node
unfolding chosen
was_chosen inside [] k node there = absurd (cc)
was_chosen inside (first ∷ nodes) k node there =
    go (λ j. was_chosen (λ i. inside (suc i)) nodes j node) (inside 0) refl k there
  where
    later : Named (λ i. inside (suc i)) nodes node → Named inside (first ∷ nodes) node
    later one = (suc one.0, one.1, one.2)

    go : ((j : ℕ) → slice_get (chosen (λ i. inside (suc i)) nodes) j ≡ Some node → Named (λ i. inside (suc i)) nodes node)
        → (b : Bool) → inside 0 ≡ b → (k : ℕ)
        → slice_get (cond b (first ∷ chosen (λ i. inside (suc i)) nodes) (chosen (λ i. inside (suc i)) nodes)) k
        ≡ Some node
        → Named inside (first ∷ nodes) node
    go was true is zero there = (0, is, there)
    go was true is (suc k) there = later (was k there)
    go was false is k there = later (was k there)

-- ---- what one node reaches a list reaches that has it

module _ (plans : Plans) where
  pub covers_among : (nodes : List Node) (node here : Node) → IsOne nodes node → Covers plans node here
      → IsCovered plans nodes here
  covers_among nodes node here one covers =
      covered_among plans (node ∷ []) nodes here covers
      (subst (IsOne nodes) (only_one node covers.node covers.index covers.there) one)

  settles_among : (most : ℕ) (nodes : List Node) (node : Node) → IsOne nodes node → (n : ℕ) (here : Node)
      → Settles plans most (node ∷ []) n here → Settles plans most nodes n here
  settles_among most nodes node one zero here covers = covers_among nodes node here one covers
  settles_among most nodes node one (suc n) here settles = elim settles [
    | inl covers ↦ inl (covers_among nodes node here one covers)
    | inr on ↦ inr (elim on [
      | inl ahead ↦ inl (ahead.0, ahead.1, settles_among most nodes node one n ahead.0 ahead.2)
      | inr s ↦ inr (
        s.0,
        s.1,
        λ e new at hart leads.
            settles_among most nodes node one n _ (s.2 e new at hart leads),
      )
    ])
  ]

  pub settled_among : (most : ℕ) (nodes : List Node) (node here : Node) → IsOne nodes node
      → IsSettledBy plans most (node ∷ []) here → IsSettledBy plans most nodes here
  settled_among most nodes node here one settled = (settled.0, settles_among most nodes node one settled.0 here settled.1)

  -- ---- where the nodes are closed

  pub walk_covered : (nodes : List Node) → IsClosed plans nodes → (rs : List ℕ) (here there : Node)
      → IsCovered plans nodes here → GoesOn plans rs here there → IsCovered plans nodes there
  walk_covered nodes closed [] here there cov walk = subst (IsCovered plans nodes) (sym walk) cov
  walk_covered nodes closed (r ∷ rs) here there cov walk =
      let s = stepped plans r here walk.0 walk.1 in
      walk_covered nodes closed rs walk.0 there
      (subst (IsCovered plans nodes) (sym s.4)
      (step_covered plans nodes here.cluster (walk.0).cluster here.had s.0 s.3 s.2 cov
      (λ other is. closed.each cov.index (s.0).rank cov.node other cov.there is))) walk.2

  -- an end is covered by an end alone
  pub end_covered : (nodes : List Node) (end : Node) (cov : IsCovered plans nodes end) → IsEnd plans end.cluster
      → IsEnd plans cov.node.cluster
  end_covered nodes end cov is =
      ends_law.ends plans end.cluster cov.node.cluster (cov.names, end_alike plans end.cluster is nodes end.had cov) is

  pub end_covers : (node here : Node) → Covers plans node here → IsEnd plans here.cluster → IsEnd plans node.cluster
  end_covers node here covers is =
      subst (λ (n : Node). IsEnd plans n.cluster) (sym (only_one node covers.node covers.index covers.there))
      (end_covered (node ∷ []) here covers is)

-- ---- a graph, and a trap in it

module _ (plans : Plans) (most : ℕ) (nodes : List Node) (edges : Edges) (inside : ℕ → Bool)
    (trap : IsTrap plans nodes edges inside) where
  abbrev some : List Node
  some = chosen inside nodes

  -- where an edge leads from one of them is one of them
  edge_chosen : (sure : Bool) (i : ℕ) (here : Node) → inside i ≡ true
      → (edge : HasEdge sure plans most nodes edges i here) → IsOne some edge.to
  edge_chosen sure i here is edge =
      is_chosen inside nodes edge.to (edge.j, trap.stays i edge.j is edge.edge, edge.there)

  no_end : (k : ℕ) (node : Node) → slice_get some k ≡ Some node → IsEnd plans node.cluster → ⊥
  no_end k node there = (let w = was_chosen inside nodes k node there in trap.no_end w.0 node w.1 w.2)

  starts : (sure : Bool) → IsGraph sure plans most nodes edges → (i : ℕ) (node : Node) → inside i ≡ true
      → slice_get nodes i ≡ Some node → IsCovered plans some node
  starts sure graph i node is there =
      covers_among plans some node node (is_chosen inside nodes node (i, is, there))
      (by_alike plans node node (graph.itself i node there) refl)

  -- ---- by coverage

  module _ (graph : IsGraph false plans most nodes edges) where
    closed : IsClosed plans some
    closed = record {
      each = λ k r node rank there has.
          let w = was_chosen inside nodes k node there in
          elim (graph.closed w.0 r node rank w.2 has) [
            | inl done ↦ inl done
            | inr moves ↦ inr (λ e new at hart leads.
                let edge = moves e new at hart leads in
                covers_among plans some edge.to (record { cluster = new; had = one_more node.had r })
                (edge_chosen false w.0 _ w.1 edge) edge.reaches)
          ];
    }

    pub never_covered : (i : ℕ) (node : Node) → inside i ≡ true → slice_get nodes i ≡ Some node → NeverEnds plans node
    never_covered i node is there last after end =
        let cov = walk_covered plans some closed after.0 node last (starts false graph i node is there) after.1 in
        no_end cov.index cov.node cov.there (end_covered plans some last cov end)

  -- ---- with turns of sure ranks taken at once

  module _ (graph : IsGraph true plans most nodes edges) where
    closed_at_once : IsClosedAtOnce plans most some
    closed_at_once = record {
      each = λ k r node rank there has.
          let w = was_chosen inside nodes k node there in
          elim (graph.closed w.0 r node rank w.2 has) [
            | inl done ↦ inl done
            | inr moves ↦ inr (λ e new at hart leads.
                let edge = moves e new at hart leads in
                settled_among plans most some edge.to (record { cluster = new; had = one_more node.had r })
                (edge_chosen true w.0 _ w.1 edge) edge.reaches)
          ];
      few = λ k node there. (let w = was_chosen inside nodes k node there in graph.room w.0 node w.2);
    }

    abbrev GoesOnFrom : Node → Type 0
    GoesOnFrom here = IsEnd plans here.cluster → ⊥

    goes_back : (node here : Node) → Covers plans node here → GoesOnFrom node → GoesOnFrom here
    goes_back node here covers goes end = goes (end_covers plans node here covers end)

    goes_before : (r : ℕ) (here new : Node) → IsSure plans most here r → Goes plans r here new
        → HasPostsWithin most new.cluster → GoesOnFrom new → GoesOnFrom here
    goes_before r here new sure turn within goes =
        let more = turn_posts plans r here new turn in
        let few : posts new.cluster ≤ most = within in
        sure.no_end [] here tt refl (omega (arith, more, few))

    pub never_settled : (i : ℕ) (node : Node) → inside i ≡ true → slice_get nodes i ≡ Some node → NeverEnds plans node
    never_settled i node is there last after end =
        let room = graph.room i node there in
        walk_holds plans most GoesOnFrom goes_back goes_before some closed_at_once no_end after.0 node last
        (0, starts true graph i node is there) (omega (arith, room)) after.1 end

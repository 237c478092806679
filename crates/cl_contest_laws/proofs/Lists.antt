-- Lists of nodes whose clusters are closed.
use Rattle.std.proofs.Common.{◌≡◌, ◌∙◌, ℕ, zero, suc, sym, ap, subst, ◌⊎◌, inl, inr, List, [], ◌∷◌, ◌++◌, length, Bool, Some}
use Rattle.std.specs.Prelude.{IsTrue}
use Rattle.std.specs.List.{slice_get, slice_set}
use Rattle.std.proofs.lemmas.Bool.{cases_eq}
use Rattle.mp_wait_laws.proofs.Sets.{get-set_other}
use Rattle.cl_state.specs.Rank.{Rank}
use Rattle.cl_state.specs.Told.{told}
use Rattle.cl_state.proofs.Moves.{told_at}
use Rattle.cl_state_laws.specs.Vain.{IsStopped, mode_of}
use Rattle.cl_machine.specs.declared.steps.Step.{Step}
use Rattle.cl_machine.specs.Cluster.{Cluster, IsRun, loaded_cluster}
use Rattle.cl_deadlock_laws.proofs.Reached.{Comes, comes_reached}
use Rattle.cl_order_laws.specs.Closed.{IsDone, IsEnd, Node, Plans, WaitsInVain}
use Rattle.cl_order_laws.specs.Laws.{IsReached}
use Rattle.cl_order_laws.specs.Sure.{Goes, GoesOn, WhereverLeads}
use Rattle.cl_order_laws.proofs.Covered.{only_one}
use Rattle.cl_order_laws.proofs.Each.{was_there}
use Rattle.cl_outcome_laws.specs.Graphs.{Edges}
use Rattle.cl_outcome_laws.proofs.CatchUp.{told_so}
use Rattle.cl_reduction_laws.specs.Clusters.{Search}
use Rattle.cl_reduction_laws.specs.Settled.{IsFit, IsSettled, IsSingle, Settles}
use Rattle.cl_contest_laws.specs.Lists.{HasEdge, IsClosedByContest, IsContestGraph, IsOneOf}
use Rattle.cl_contest_laws.proofs.Kept.{AreClosed, GoesOnSettled}
use Rattle.cl_contest_laws.proofs.Rest.{AllRest}
use Rattle.cl_contest_laws.proofs.Walks.{IsPlanned}

pub planned_of : (search : Search) (plans : Plans) (c : Cluster) → IsSingle search plans c → IsPlanned search plans
planned_of search plans c single r n = single.plans_are r n ∙ sym (single.harts r)

-- ---- what settles by some settles by more

pub settles_in : (search : Search) (Is Also : Cluster → Type 0) → ((c : Cluster) → Is c → Also c) → (n : ℕ) (c : Cluster)
    → Settles search Is n c → Settles search Also n c
settles_in search Is Also all zero c s = (s.0, ((s.1).0, all (s.1).0 (s.1).1, (s.1).2))
settles_in search Is Also all (suc n) c s = (
  s.0,
  elim s.1 [
    | inl alike ↦ inl (alike.0, all alike.0 alike.1, alike.2)
    | inr on ↦ inr
        (on.0, on.1, on.2, on.3, on.4, λ new turn. settles_in search Is Also all n new (on.5 new turn))
  ],
)

-- ---- a turn of a node's rank

module _ (search : Search) (plans : Plans) (planned : IsPlanned search plans) (Is : Cluster → Type 0) where
  pub goes_settled : (r : ℕ) (node : Node) (rank : Rank)
      → IsDone (plans r) rank ⊎ WhereverLeads plans node r (λ next. IsSettled search Is next.cluster)
      → GoesOnSettled search Is node.cluster r rank
  goes_settled r node rank (inl done) = inl (subst (λ h. IsStopped (mode_of rank h)) (planned r 0) (done 0))
  goes_settled r node rank (inr leads) =
      inr (λ new turn. leads turn.step new turn.rank (turn.hart ∙ sym (planned r (node.had r))) turn.leads)

module _ (search : Search) (plans : Plans) (planned : IsPlanned search plans) where
  -- nobody goes on exactly where all rest
  pub all_rest : (c : Cluster) → IsEnd plans c → AllRest search c
  all_rest c end r rank there =
      subst (λ h. IsStopped (mode_of rank h) ⊎ WaitsInVain c r rank h) (planned r 0) (end r 0 rank there)

  pub is_end : (c : Cluster) → AllRest search c → IsEnd plans c
  is_end c rest r n rank there =
      subst (λ h. IsStopped (mode_of rank h) ⊎ WaitsInVain c r rank h) (sym (planned r n)) (rest r rank there)

-- ---- a list

module _ (search : Search) (plans : Plans) (planned : IsPlanned search plans) (nodes : List Node) where
  pub list_closed : IsClosedByContest search plans nodes → AreClosed search (IsOneOf nodes)
  list_closed closed = record {
    fit = λ c is. subst (IsFit search) is.3 (closed.fit is.0 is.1 is.2);
    next = λ r c rank is there.
        subst (λ k. GoesOnSettled search (IsOneOf nodes) k r rank) is.3
        (goes_settled search plans planned (IsOneOf nodes) r is.1 rank
        (closed.closed is.0 r is.1 rank is.2 (ap (λ (k : Cluster). slice_get k.ranks r) is.3 ∙ there)));
  }

  -- ---- a graph

  module _ (edges : Edges) (graph : IsContestGraph search plans nodes edges) where
    -- some of its nodes, which no edge leaves
    module _ (inside : ℕ → Bool) (stays : (i j : ℕ) → IsTrue (inside i) → IsTrue (edges i j) → IsTrue (inside j)) where
      abbrev pub IsInside : Cluster → Type 0
      IsInside c = (i : ℕ) × (node : Node) × (slice_get nodes i ≡ Some node) × (node.cluster ≡ c) × IsTrue (inside i)

      edge_settles : (i : ℕ) (here : Node) → IsTrue (inside i) → HasEdge search nodes edges i here
          → IsSettled search IsInside here.cluster
      edge_settles i here is edge = (
        (edge.settles).0,
        settles_in search (IsOneOf (edge.to ∷ [])) IsInside
            (λ c one. (
              edge.j,
              edge.to,
              edge.there,
              ap (λ (n : Node). n.cluster) (only_one edge.to one.1 one.0 one.2) ∙ one.3,
              stays i edge.j is edge.edge,
            ))
            (edge.settles).0 here.cluster (edge.settles).1,
      )

      inside_leads : (i r : ℕ) (node : Node) (rank : Rank) → IsTrue (inside i)
          → IsDone (plans r) rank ⊎ WhereverLeads plans node r (HasEdge search nodes edges i)
          → IsDone (plans r) rank ⊎ WhereverLeads plans node r (λ next. IsSettled search IsInside next.cluster)
      inside_leads i r node rank is (inl done) = inl done
      inside_leads i r node rank is (inr leads) =
          inr (λ e new at hart turn. edge_settles i _ is (leads e new at hart turn))

      pub inside_closed : AreClosed search IsInside
      inside_closed = record {
        fit = λ c is. subst (IsFit search) is.3 (graph.fit is.0 is.1 is.2);
        next = λ r c rank is there.
            subst (λ k. GoesOnSettled search IsInside k r rank) is.3
            (goes_settled search plans planned IsInside r is.1 rank
            (inside_leads is.0 r is.1 rank is.4
            (graph.closed is.0 r is.1 rank is.2 (ap (λ (k : Cluster). slice_get k.ranks r) is.3 ∙ there))));
      }

    -- all of them
    pub graph_closed : IsClosedByContest search plans nodes
    graph_closed = record {
      closed = λ i r node rank there has. all_leads i r node rank (graph.closed i r node rank there has);
      fit = graph.fit;
    }
      where
        all_leads : (i r : ℕ) (node : Node) (rank : Rank)
            → IsDone (plans r) rank ⊎ WhereverLeads plans node r (HasEdge search nodes edges i)
            → IsDone (plans r) rank ⊎ WhereverLeads plans node r (λ next. IsSettled search (IsOneOf nodes) next.cluster)
        all_leads i r node rank (inl done) = inl done
        all_leads i r node rank (inr leads) =
            inr (λ e new at hart turn.
            let edge = leads e new at hart turn in (
              (edge.settles).0,
              settles_in search (IsOneOf (edge.to ∷ [])) (IsOneOf nodes)
                  (λ c one. (
                    edge.j,
                    edge.to,
                    edge.there,
                    ap (λ (n : Node). n.cluster) (only_one edge.to one.1 one.0 one.2) ∙ one.3,
                  ))
                  (edge.settles).0 new (edge.settles).1,
            ))

-- ---- ranks of one hart

pub runs_on : (es fs : List Step) (a b c : Cluster) → IsRun a es b → IsRun b fs c → IsRun a (es ++ fs) c
runs_on [] fs a b c first second = subst (λ k. IsRun k fs c) first second
runs_on (e ∷ es) fs a b c first second = (first.0, first.1, runs_on es fs first.0 b c first.2 second)

abbrev pub HasOneEach : Cluster → Type 0
HasOneEach c = (r : ℕ) (rank : Rank) → slice_get c.ranks r ≡ Some rank → length rank.harts ≡ 1

module _ (plans : Plans) where
  one_turn : (r : ℕ) (here new : Node) → Goes plans r here new → HasOneEach here.cluster → HasOneEach new.cluster
  one_turn r here new goes one = λ s z is.
      let e = goes.step in
      let y = goes.leads in
      let t = told_so plans here.cluster new.cluster e y.0 e.kind y.3 in
      let now = told y.0 e.hart t.0 e.stamp in
      let there : slice_get (slice_set here.cluster.ranks e.rank now) s ≡ Some z =
      subst (λ xs. slice_get xs s ≡ Some z) t.1 is in
      elim (cases_eq e.rank s) [
        | inl same ↦
            let w = was_there here.cluster.ranks e.rank now z
            (subst (λ k. slice_get (slice_set here.cluster.ranks e.rank now) k ≡ Some z) (sym same) there) in
            sym (ap (λ (q : Rank). length q.harts) w.0)
            ∙ ((told_at y.0 e.hart t.0 e.stamp).harts
            ∙ one s y.0 (subst (λ k. slice_get here.cluster.ranks k ≡ Some y.0) same y.1))
        | inr apart ↦ one s z (sym (get-set_other here.cluster.ranks e.rank s now apart) ∙ there)
      ]

  -- where each rank had one hart it has one, wherever turns lead
  pub one_walk : (rs : List ℕ) (here last : Node) → GoesOn plans rs here last → HasOneEach here.cluster
      → HasOneEach last.cluster
  one_walk [] here last walk one = subst (λ (n : Node). HasOneEach n.cluster) (sym walk) one
  one_walk (r ∷ rs) here last walk one = one_walk rs walk.0 last walk.2 (one_turn r here walk.0 walk.1 one)

module _ (start end : Cluster) (steps : List Step) (reached : IsReached start) (run : IsRun start steps end) where
  -- where it leads was reached from the same image
  pub comes : Comes reached.0 end
  comes =
      comes_reached reached.0 (reached.1 ++ steps) end
      (runs_on reached.1 steps (loaded_cluster reached.0) start end reached.2 run)

-- An end is a closed set by itself, where each plan names one hart.
use Rattle.std.proofs.Common.{◌≡◌, ℕ, zero, suc, ◌+◌, ◌⊎◌, inl, inr, [], ◌∷◌, Some, refl, sym, ap, ◌∙◌, subst}
use Rattle.std.specs.List.{slice_get}
use Rattle.std.proofs.lemmas.Option.{same_Some}
use Rattle.mp_alike_laws.specs.Renaming.{Renaming, no_renaming, turned}
use Rattle.cl_state.specs.Rank.{Rank}
use Rattle.cl_state_laws.specs.Vain.{IsStopped, mode_of}
use Rattle.cl_machine.specs.declared.steps.Step.{Step}
use Rattle.cl_machine.specs.Cluster.{Cluster}
use Rattle.cl_order_laws.specs.Alike.{AlikeClusters, Leads}
use Rattle.cl_order_laws.specs.Closed.{IsClosed, IsCovered, IsDone, IsEnd, Node, Plans, Turns, WaitsInVain, one_more}
use Rattle.cl_order_laws.specs.Laws.{IsReached}
use Rattle.cl_order_laws.specs.Rows.{EndsAreClosed}
use Rattle.cl_order_laws.proofs.Likeness.{clusters_back, itself}
use Rattle.cl_order_laws.proofs.Stays.{by_end}
use Rattle.cl_order_laws.proofs.Vain.{vain}

-- a cluster that is alike the end is covered by it, whatever turns were had
by_itself : (plans : Plans) (end : Node) → ((r n m : ℕ) → plans r n ≡ plans r m) → (names : Renaming) (c : Cluster)
    (had : Turns) → AlikeClusters names c end.cluster
    → IsCovered plans (end ∷ []) (record { cluster = c; had = had })
by_itself plans end one names c had alike = record {
  index = 0;
  node = end;
  there = refl;
  names = names;
  many = (alike.ranks).many;
  ranks = λ r rank here.
      let v = (alike.ranks).each r rank here in (
        v.0,
        v.1,
        record {
          turns = 0;
          then = rank;
          after = had r;
          ahead = (refl, refl);
          alike = v.2;
          place = inl (λ k. one r (had r + k) (end.had r + k));
        },
      );
  hubs = alike.hubs;
  boxes = alike.boxes;
}

module _ (plans : Plans) (end : Node) (reached : IsReached end.cluster) (is : IsEnd plans end.cluster)
    (one : (r n m : ℕ) → plans r n ≡ plans r m) where
  leads_back : (e : Step) (new : Cluster) (r : ℕ) → e.rank ≡ r → e.hart ≡ plans r (end.had r)
      → Leads end.cluster e new
      → IsCovered plans (end ∷ []) (record { cluster = new; had = one_more end.had r })
  leads_back e new r at hart leads =
      let x = leads.0 in
      let by_plan : e.hart ≡ plans e.rank (end.had r) =
      hart ∙ ap (λ s. plans s (end.had r)) (sym at) in
      let how : IsStopped (mode_of x e.hart) ⊎ WaitsInVain end.cluster e.rank x e.hart =
      subst (λ h. IsStopped (mode_of x h) ⊎ WaitsInVain end.cluster e.rank x h) (sym by_plan)
      (is e.rank (end.had r) x leads.1) in
      let alike = vain end.cluster new e x reached leads.1 e.kind
      (by_end end.cluster new e x e.kind leads.3 how) leads.3 in
      by_itself plans end one (turned no_renaming) new (one_more end.had r)
      (clusters_back no_renaming end.cluster new alike)

  closed : IsClosed plans (end ∷ [])
  closed = record { each = each }
    where
      each : (i r : ℕ) (node : Node) (rank : Rank) → slice_get (end ∷ []) i ≡ Some node
          → slice_get node.cluster.ranks r ≡ Some rank
          → IsDone (plans r) rank
          ⊎ ((e : Step) (new : Cluster) → e.rank ≡ r → e.hart ≡ plans r (node.had r) → Leads node.cluster e new
          → IsCovered plans (end ∷ []) (record { cluster = new; had = one_more node.had r }))
      each zero r node rank there has =
          subst (λ (n : Node). IsDone (plans r) rank
          ⊎ ((e : Step) (new : Cluster) → e.rank ≡ r → e.hart ≡ plans r (n.had r) → Leads n.cluster e new
          → IsCovered plans (end ∷ []) (record { cluster = new; had = one_more n.had r }))) (same_Some end node there)
          (inr (λ e new at hart leads. leads_back e new r at hart leads))
      each (suc i) r node rank there has = absurd (cc)

pub ends_closed : EndsAreClosed
ends_closed plans end reached is one = (
  closed plans end reached is one,
  by_itself plans end one no_renaming end.cluster end.had (itself end.cluster reached),
)

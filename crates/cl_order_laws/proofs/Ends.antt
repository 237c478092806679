-- Where nobody goes on, a rank's turns change nothing but its clock: so the node that covers is alike.
use Rattle.std.proofs.Common.{◌≡◌, ℕ, inl, inr, List, Some, refl, ap, ◌∙◌, subst}
use Rattle.std.specs.List.{slice_get}
use Rattle.cl_state.specs.declared.asking.Answer.{Answer}
use Rattle.cl_state.specs.declared.asking.Ask.{Ask}
use Rattle.cl_state.specs.Asked.{asked}
use Rattle.cl_state.specs.Rank.{Rank}
use Rattle.cl_state.specs.Told.{told}
use Rattle.cl_state_laws.specs.VainLaws.{at_clock}
use Rattle.cl_state_laws.proofs.Vain.{vain_law}
use Rattle.cl_names_laws.specs.Named.{rank_by}
use Rattle.cl_machine.specs.Cluster.{Cluster}
use Rattle.cl_order_laws.specs.Alike.{AlikeClusters}
use Rattle.cl_order_laws.specs.Closed.{IsCovered, IsEnd, IsInVain, NeedsOnlyRank, Node, Plans, Turns, WaitsInVain, had_after}
use Rattle.cl_order_laws.specs.Laws.{EveryEndLaw}
use Rattle.cl_order_laws.proofs.Ahead.{Rests, resting}
use Rattle.cl_order_laws.proofs.Covered.{covered_law}

module _ (plans : Plans) (end : Cluster) (is : IsEnd plans end) where
  waits_rest : (r hart stamp : ℕ) (rank : Rank) → WaitsInVain end r rank hart → NeedsOnlyRank (asked rank hart)
      → told rank hart Answer.Alone stamp ≡ at_clock rank stamp
  waits_rest r hart stamp rank waits needs = go (asked rank hart) refl
    where
      go : (q : Ask) → asked rank hart ≡ q → told rank hart Answer.Alone stamp ≡ at_clock rank stamp
      go Ask.Held e = (vain_law.held) rank hart stamp waits.0 e
      go Ask.Plain e = absurd (subst (IsInVain end r) e waits.1)
      go Ask.Local e = absurd (subst (IsInVain end r) e waits.1)
      go Ask.Idle e = absurd (subst (IsInVain end r) e waits.1)
      go (Ask.Hub request) e = absurd (subst NeedsOnlyRank e needs)
      go (Ask.Ready link part bytes) e = absurd (subst NeedsOnlyRank e needs)
      go (Ask.Look link part) e = absurd (subst NeedsOnlyRank e needs)
      go (Ask.Freed link part) e = absurd (subst NeedsOnlyRank e needs)

  rests : (r : ℕ) (rank : Rank) → slice_get end.ranks r ≡ Some rank → Rests (plans r) rank
  rests r rank here = λ n stamp needs. elim (is r n rank here) [
    | inl stopped ↦ ((vain_law.stopped) rank (plans r n) stamp Answer.Alone stopped).1
    | inr waits ↦ waits_rest r (plans r n) stamp rank waits needs
  ]

  pub end_alike : (nodes : List Node) (had : Turns) → (cov : IsCovered plans nodes (record { cluster = end; had = had }))
      → AlikeClusters cov.names end cov.node.cluster
  end_alike nodes had cov = record {
    ranks = record {
      many = cov.many;
      each = λ r rank here.
          let v = cov.ranks r rank here in
          let b = v.2 in
          let stays = resting (plans r) rank (rests r rank here) b.turns rank.clock (had r) b.then b.after b.ahead in
          (v.0, v.1, ((b.alike).0, (b.alike).1 ∙ ap (λ (x : Rank). at_clock (rank_by cov.names x) (b.alike).0) stays.1));
    };
    hubs = cov.hubs;
    boxes = cov.boxes;
  }

pub every_end_law : EveryEndLaw
every_end_law plans nodes start first closed steps end run follow is =
    let cov = covered_law plans nodes start first closed steps end run follow in
    (cov.index, cov.node, cov.there, (cov.names, end_alike plans end is nodes (had_after start.had steps) cov))

-- A closed set that follows sure ranks alone has each end.
use Rattle.std.proofs.Common.{◌≡◌, ℕ, zero, suc, ◌≤◌, ◌<◌, ◌⊎◌, inl, inr, List, [], ◌∷◌, length, map, Some, refl, sym, ap, ◌∙◌, subst, arith}
use Rattle.std.specs.Prelude.{◌≢◌}
use Rattle.std.specs.List.{slice_get}
use Rattle.std.proofs.lemmas.Bool.{cases_eq}
use Rattle.cl_state.specs.Rank.{Rank}
use Rattle.cl_machine.specs.declared.steps.Step.{Step}
use Rattle.cl_machine.specs.Cluster.{Cluster}
use Rattle.cl_order_laws.specs.Closed.{IsCovered, IsDone, IsEnd, Node, Plans, had_after, one_more}
use Rattle.cl_order_laws.specs.Laws.{AreAlike}
use Rattle.cl_order_laws.specs.Splits.{HasAlike}
use Rattle.cl_order_laws.specs.Sure.{Goes, GoesOn, HasPostsWithin, IsClosedBySure, IsSettledBy, IsSure, WhereverLeads, Settles, SureLaw}
use Rattle.cl_order_laws.proofs.Covered.{covered_among, node_of, step_goes}
use Rattle.cl_order_laws.proofs.Deadlocks.{ends_law}
use Rattle.cl_order_laws.proofs.Ends.{end_alike}
use Rattle.cl_order_laws.proofs.Likeness.{likeness_law}
use Rattle.cl_order_laws.proofs.Splits.{by_alike}
use Rattle.cl_order_laws.proofs.Walks.{Covers, Follows, alike_posts, follow, one_swapped, posts, stepped, walk_of, walk_posts}

module _ (plans : Plans) where
  -- ---- the sure turn, first of all

  -- a turn of the rank leads to a node from which fewer turns lead to an end that is alike
  record Fronted (most r many : ℕ) (here end : Node) : Type 0 where
    mid : Node
    goes : Goes plans r here mid
    ranks : List ℕ
    last : Node
    walk : GoesOn plans ranks mid last
    fewer : length ranks < many
    alike : (c : Cluster) → AreAlike last.cluster c → AreAlike end.cluster c
    is : IsEnd plans last.cluster
    within : HasPostsWithin most last.cluster

  pub sure_on : (most r s : ℕ) (here mid : Node) → s ≢ r → Goes plans s here mid → IsSure plans most here r
      → IsSure plans most mid r
  sure_on most r s here mid apart turn sure = record {
    goes = λ ss there others walk. sure.goes (s ∷ ss) there (apart, others) (mid, turn, walk);
    asks = λ ss there others walk. sure.asks (s ∷ ss) there (apart, others) (mid, turn, walk);
    no_end = λ ss there others walk. sure.no_end (s ∷ ss) there (apart, others) (mid, turn, walk);
    before = λ ss there next new t others walk. sure.before (s ∷ ss) there next new t (apart, others) (mid, turn, walk);
  }

  front : (most r : ℕ) (rs : List ℕ) (here end : Node) → IsSure plans most here r → GoesOn plans rs here end
      → IsEnd plans end.cluster → HasPostsWithin most end.cluster → Fronted most r (length rs) here end
  front most r [] here end sure walk is within = absurd (sure.no_end [] end tt walk within is)
  front most r (s ∷ rs) here end sure walk is within = elim (cases_eq s r) [
    | inl same ↦ record {
      mid = walk.0;
      goes = subst (λ k. Goes plans k here walk.0) same walk.1;
      ranks = rs;
      last = end;
      walk = walk.2;
      fewer = omega arith;
      alike = λ c same. same;
      is = is;
      within = within;
    }
    | inr apart ↦ later apart
        (front most r rs walk.0 end (sure_on most r s here walk.0 apart walk.1 sure) walk.2 is within)
  ]
    where
      later : s ≢ r → Fronted most r (length rs) walk.0 end → Fronted most r (length (s ∷ rs)) here end
      later apart f =
          let grows = walk_posts plans f.ranks f.mid f.last f.walk in
          let bound : posts f.last.cluster ≤ most = f.within in
          let k = sure.before [] here walk.0 f.mid s tt refl apart walk.1 f.goes (omega (arith, grows, bound)) in
          let had : k.last.had ≡ f.mid.had =
          (k.then).had ∙ ap (λ h. one_more h s) (k.first).had ∙ sym (one_swapped here.had s r)
          ∙ sym ((f.goes).had ∙ ap (λ h. one_more h r) (walk.1).had) in
          let g = follow plans f.ranks k.last f.mid f.last (by_alike plans f.mid k.last k.alike had) f.walk f.is in
          let same = alike_posts f.last.cluster g.last.cluster g.alike in
          record {
            mid = k.mid;
            goes = k.first;
            ranks = s ∷ g.ranks;
            last = g.last;
            walk = (k.last, k.then, g.walk);
            fewer = (let m = g.most in let n = f.fewer in omega (arith, m, n));
            alike = λ c same. f.alike c (likeness_law.on f.last.cluster g.last.cluster c g.alike same);
            is = ends_law.ends plans f.last.cluster g.last.cluster g.alike f.is;
            within = omega (arith, same, bound);
          }

  -- ---- where a turn leads from what is covered

  -- the list covers again, or a node that settles does
  pub turn_on : (most : ℕ) (nodes : List Node) (r : ℕ) (here mid : Node) (cov : IsCovered plans nodes here)
      → Goes plans r here mid
      → ((r : ℕ) (rank : Rank) → slice_get cov.node.cluster.ranks r ≡ Some rank
      → IsDone (plans r) rank ⊎ WhereverLeads plans cov.node r (IsSettledBy plans most nodes))
      → IsCovered plans nodes mid ⊎ ((next : Node) × Covers plans next mid × IsSettledBy plans most nodes next)
  turn_on most nodes r here mid cov goes each =
      let s = stepped plans r here mid goes in
      elim (step_goes plans nodes here.cluster mid.cluster here.had s.0 s.3 s.2 cov
      (WhereverLeads plans cov.node (s.0).rank (IsSettledBy plans most nodes)) (λ other there. each (s.0).rank other there)) [
        | inl covers ↦ inl (subst (IsCovered plans nodes) (sym s.4) covers)
        | inr v ↦
            let t = (v.1).goes in inr (
              (v.1).next,
              subst (Covers plans (v.1).next) (sym s.4) (v.1).covers,
              subst (λ had. IsSettledBy plans most nodes (node_of (v.1).next.cluster had)) (sym t.had)
                  (v.0 t.step (v.1).next.cluster t.rank t.hart t.leads),
            )
      ]

  -- ---- all ends

  module _ (most : ℕ) (nodes : List Node) (closed : IsClosedBySure plans most nodes) where
    -- of all runs to an end that are shorter
    abbrev Finds : ℕ → Type 0
    Finds bound =
        (rs : List ℕ) (here end : Node) (n : ℕ) → length rs < bound → Settles plans most nodes n here
        → GoesOn plans rs here end → IsEnd plans end.cluster → HasPostsWithin most end.cluster
        → HasAlike nodes end.cluster

    by_sure : (bound : ℕ) → Finds bound → (rs : List ℕ) (here end : Node) (r : ℕ) → length rs ≤ bound
        → IsSure plans most here r → WhereverLeads plans here r (IsSettledBy plans most nodes) → GoesOn plans rs here end
        → IsEnd plans end.cluster → HasPostsWithin most end.cluster
        → HasAlike nodes end.cluster
    by_sure bound finds rs here end r small sure leads walk is within =
        let g = front most r rs here end sure walk is within in
        let t = g.goes in
        let fewer = g.fewer in
        let settled : IsSettledBy plans most nodes g.mid =
        subst (λ had. IsSettledBy plans most nodes (node_of g.mid.cluster had)) (sym t.had)
        (leads t.step g.mid.cluster t.rank t.hart t.leads) in
        let h = finds g.ranks g.mid g.last settled.0 (omega (arith, fewer, small)) settled.1 g.walk g.is g.within in
        (h.0, h.1, h.2, g.alike (h.1).cluster h.3)

    by_each : (bound : ℕ) → Finds bound → (rs : List ℕ) (here end : Node) (cov : IsCovered plans nodes here)
        → length rs ≤ bound → GoesOn plans rs here end → IsEnd plans end.cluster → HasPostsWithin most end.cluster
        → ((r : ℕ) (rank : Rank) → slice_get cov.node.cluster.ranks r ≡ Some rank
        → IsDone (plans r) rank ⊎ WhereverLeads plans cov.node r (IsSettledBy plans most nodes))
        → HasAlike nodes end.cluster
    by_each bound finds [] here end cov small walk is within each =
        let at = subst (IsCovered plans nodes) (sym walk) cov in
        (at.index, at.node, at.there, (at.names, end_alike plans end.cluster is nodes end.had at))
    by_each bound finds (r ∷ rs) here end cov small walk is within each =
        elim (turn_on most nodes r here walk.0 cov walk.1 each) [
          | inl covers ↦ finds rs walk.0 end 0 (omega (arith, small)) covers walk.2 is within
          | inr v ↦ on v.0 (follow plans rs v.0 walk.0 end v.1 walk.2 is) v.2
        ]
      where
        on : (next : Node) → Follows plans (length rs) next end → IsSettledBy plans most nodes next
            → HasAlike nodes end.cluster
        on next f settled =
            let few = f.most in
            let same = alike_posts end.cluster f.last.cluster f.alike in
            let many : posts end.cluster ≤ most = within in
            let h = finds f.ranks next f.last settled.0 (omega (arith, few, small)) settled.1 f.walk
            (ends_law.ends plans end.cluster f.last.cluster f.alike is) (omega (arith, same, many)) in
            (h.0, h.1, h.2, likeness_law.on end.cluster f.last.cluster (h.1).cluster f.alike h.3)

    by_node : (bound : ℕ) → Finds bound → (rs : List ℕ) (here end : Node) → IsCovered plans nodes here
        → length rs ≤ bound → GoesOn plans rs here end → IsEnd plans end.cluster → HasPostsWithin most end.cluster
        → HasAlike nodes end.cluster
    by_node bound finds rs here end cov small walk is within = elim (closed.each cov.index cov.node cov.there) [
      | inl s ↦
          let f = follow plans rs cov.node here end (covered_among plans nodes (cov.node ∷ []) here cov (0, refl)) walk is in
          let few = f.most in
          let same = alike_posts end.cluster f.last.cluster f.alike in
          let many : posts end.cluster ≤ most = within in
          let h = by_sure bound finds f.ranks cov.node f.last s.0 (omega (arith, few, small)) s.1 s.2 f.walk
          (ends_law.ends plans end.cluster f.last.cluster f.alike is) (omega (arith, same, many)) in
          (h.0, h.1, h.2, likeness_law.on end.cluster f.last.cluster (h.1).cluster f.alike h.3)
      | inr each ↦ by_each bound finds rs here end cov small walk is within each
    ]

    by_turns : (bound : ℕ) → Finds bound → (n : ℕ) (rs : List ℕ) (here end : Node) → length rs ≤ bound
        → Settles plans most nodes n here → GoesOn plans rs here end → IsEnd plans end.cluster
        → HasPostsWithin most end.cluster
        → HasAlike nodes end.cluster
    by_turns bound finds zero rs here end small cov walk is within =
        by_node bound finds rs here end cov small walk is within
    by_turns bound finds (suc n) rs here end small settles walk is within = elim settles [
      | inl cov ↦ by_node bound finds rs here end cov small walk is within
      | inr on ↦ elim on [
        | inl ahead ↦
            let f = follow plans rs ahead.0 here end ahead.1 walk is in
            let few = f.most in
            let same = alike_posts end.cluster f.last.cluster f.alike in
            let many : posts end.cluster ≤ most = within in
            let h = by_turns bound finds n f.ranks ahead.0 f.last (omega (arith, few, small)) ahead.2 f.walk
            (ends_law.ends plans end.cluster f.last.cluster f.alike is) (omega (arith, same, many)) in
            (h.0, h.1, h.2, likeness_law.on end.cluster f.last.cluster (h.1).cluster f.alike h.3)
        | inr s ↦ by_sure bound finds rs here end s.0 small s.1
            (λ e new at hart leads. (n, s.2 e new at hart leads)) walk is within
      ]
    ]

    finds : (bound : ℕ) → Finds bound
    finds zero = λ rs here end n small settles walk is within. absurd (omega (arith, small))
    finds (suc bound) = λ rs here end n small settles walk is within.
        by_turns bound (finds bound) n rs here end (omega (arith, small)) settles walk is within

pub sure_law : SureLaw
sure_law plans most nodes start first closed steps end run follow is within =
    let rs = map (λ (e : Step). e.rank) steps in
    finds plans most nodes closed (suc (length rs)) rs start (node_of end (had_after start.had steps)) first.0 (omega arith)
    first.1 (walk_of plans steps start.cluster end start.had run follow) is within

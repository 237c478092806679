-- What holds at each node of a list, where turns of sure ranks never go round in a ring and each node has few posts,
-- holds wherever turns lead. So no run makes many posts.
use Rattle.std.proofs.Common.{◌≡◌, ℕ, zero, suc, ◌≤◌, ◌<◌, inl, inr, List, [], ◌∷◌, ◌++◌, length, map, Some, refl, sym, ap, ◌∙◌, subst, arith}
use Rattle.std.specs.Prelude.{◌≢◌}
use Rattle.std.specs.List.{slice_get}
use Rattle.std.proofs.lemmas.Bool.{cases_eq}
use Rattle.cl_machine.specs.declared.steps.Step.{Step}
use Rattle.cl_machine.specs.Cluster.{Cluster, IsRun}
use Rattle.cl_order_laws.specs.Alike.{hub_of}
use Rattle.cl_order_laws.specs.Closed.{FollowPlans, IsCovered, Node, Plans, had_after, one_more}
use Rattle.cl_order_laws.specs.Sure.{AtOnceLaw, Goes, GoesOn, HasPostsWithin, IsClosedAtOnce, IsSettledBy, IsSure, Settles}
use Rattle.cl_order_laws.proofs.Covered.{covered_among, node_of}
use Rattle.cl_order_laws.proofs.Splits.{by_alike}
use Rattle.cl_order_laws.proofs.Sure.{sure_law, sure_on, turn_on}
use Rattle.cl_order_laws.proofs.Walks.{Covers, covers_posts, follow_on, one_swapped, posts, turn_posts, turn_posts_most, walk_of, walk_posts}

-- what holds at a node, where it comes back from one that covers, and from behind a sure turn
module _ (plans : Plans) (most : ℕ) (Holds : Node → Type 0)
    (back : (node here : Node) → Covers plans node here → Holds node → Holds here)
    (before : (r : ℕ) (here new : Node) → IsSure plans most here r → Goes plans r here new
    → HasPostsWithin most new.cluster → Holds new → Holds here) where
  -- ---- the sure turn, first of all, whether or not it was taken

  -- a turn of the rank leads to a node from which no more turns lead on
  record Advanced (r many : ℕ) (here there : Node) : Type 0 where
    mid : Node
    goes : Goes plans r here mid
    ranks : List ℕ
    last : Node
    walk : GoesOn plans ranks mid last
    few : length ranks ≤ many
    holds : Holds last → Holds there
    within : HasPostsWithin most last.cluster

  advance : (r : ℕ) (rs : List ℕ) (here there : Node) → IsSure plans most here r → GoesOn plans rs here there
      → HasPostsWithin most there.cluster → Advanced r (length rs) here there
  advance r [] here there sure walk within =
      let n = sure.goes [] here tt refl (subst (λ (n : Node). HasPostsWithin most n.cluster) walk within) in
      record {
        mid = n.0;
        goes = n.1;
        ranks = [];
        last = n.0;
        walk = refl;
        few = omega arith;
        holds = λ new. subst Holds (sym walk) (before r here n.0 sure n.1 n.2 new);
        within = n.2;
      }
  advance r (s ∷ rs) here there sure walk within = elim (cases_eq s r) [
    | inl same ↦ record {
      mid = walk.0;
      goes = subst (λ k. Goes plans k here walk.0) same walk.1;
      ranks = rs;
      last = there;
      walk = walk.2;
      few = omega arith;
      holds = λ there. there;
      within = within;
    }
    | inr apart ↦ later apart
        (advance r rs walk.0 there (sure_on plans most r s here walk.0 apart walk.1 sure) walk.2 within)
  ]
    where
      later : s ≢ r → Advanced r (length rs) walk.0 there → Advanced r (length (s ∷ rs)) here there
      later apart f =
          let grows = walk_posts plans f.ranks f.mid f.last f.walk in
          let bound : posts f.last.cluster ≤ most = f.within in
          let k = sure.before [] here walk.0 f.mid s tt refl apart walk.1 f.goes (omega (arith, grows, bound)) in
          let had : k.last.had ≡ f.mid.had =
          (k.then).had ∙ ap (λ h. one_more h s) (k.first).had ∙ sym (one_swapped here.had s r)
          ∙ sym ((f.goes).had ∙ ap (λ h. one_more h r) (walk.1).had) in
          let g = follow_on plans f.ranks k.last f.mid f.last (by_alike plans f.mid k.last k.alike had) f.walk in
          let same = covers_posts plans g.last f.last g.covers in
          record {
            mid = k.mid;
            goes = k.first;
            ranks = s ∷ g.ranks;
            last = g.last;
            walk = (k.last, k.then, g.walk);
            few = (let m = g.most in let n = f.few in omega (arith, m, n));
            holds = λ new. f.holds (back g.last f.last g.covers new);
            within = omega (arith, same, bound);
          }

  -- ---- wherever turns lead

  module _ (nodes : List Node) (closed : IsClosedAtOnce plans most nodes)
      (each : (i : ℕ) (node : Node) → slice_get nodes i ≡ Some node → Holds node) where
    -- by fewer turns than so many
    abbrev pub AllHold : ℕ → Type 0
    AllHold bound =
        (rs : List ℕ) (here there : Node) (n : ℕ) → length rs < bound → Settles plans most nodes n here
        → GoesOn plans rs here there → HasPostsWithin most there.cluster → Holds there

    by_node : (bound : ℕ) → AllHold bound → (rs : List ℕ) (here there : Node) → length rs ≤ bound
        → IsCovered plans nodes here → GoesOn plans rs here there → HasPostsWithin most there.cluster → Holds there
    by_node bound hold [] here there small cov walk within =
        subst Holds (sym walk)
        (back cov.node here (covered_among plans nodes (cov.node ∷ []) here cov (0, refl))
        (each cov.index cov.node cov.there))
    by_node bound hold (r ∷ rs) here there small cov walk within =
        elim (turn_on plans most nodes r here walk.0 cov walk.1
        (λ r rank is. closed.each cov.index r cov.node rank cov.there is)) [
          | inl covers ↦ hold rs walk.0 there 0 (omega (arith, small)) covers walk.2 within
          | inr v ↦
              let f = follow_on plans rs v.0 walk.0 there v.1 walk.2 in
              let same = covers_posts plans f.last there f.covers in
              let short = f.most in
              let many : posts there.cluster ≤ most = within in
              back f.last there f.covers
              (hold f.ranks v.0 f.last (v.2).0 (omega (arith, short, small)) (v.2).1 f.walk (omega (arith, same, many)))
        ]

    by_turns : (bound : ℕ) → AllHold bound → (n : ℕ) (rs : List ℕ) (here there : Node) → length rs ≤ bound
        → Settles plans most nodes n here → GoesOn plans rs here there → HasPostsWithin most there.cluster → Holds there
    by_turns bound hold zero rs here there small cov walk within = by_node bound hold rs here there small cov walk within
    by_turns bound hold (suc n) rs here there small settles walk within = elim settles [
      | inl cov ↦ by_node bound hold rs here there small cov walk within
      | inr on ↦ elim on [
        | inl ahead ↦
            let f = follow_on plans rs ahead.0 here there ahead.1 walk in
            let same = covers_posts plans f.last there f.covers in
            let short = f.most in
            let many : posts there.cluster ≤ most = within in
            back f.last there f.covers
            (by_turns bound hold n f.ranks ahead.0 f.last (omega (arith, short, small)) ahead.2 f.walk
            (omega (arith, same, many)))
        | inr s ↦
            let g = advance s.0 rs here there s.1 walk within in
            let t = g.goes in
            let short = g.few in
            let next : Settles plans most nodes n g.mid =
            subst (λ had. Settles plans most nodes n (node_of g.mid.cluster had)) (sym t.had)
            (s.2 t.step g.mid.cluster t.rank t.hart t.leads) in
            g.holds (by_turns bound hold n g.ranks g.mid g.last (omega (arith, short, small)) next g.walk g.within)
      ]
    ]

    pub all_hold : (bound : ℕ) → AllHold bound
    all_hold zero = λ rs here there n small settles walk within. absurd (omega (arith, small))
    all_hold (suc bound) = λ rs here there n small settles walk within.
        by_turns bound (all_hold bound) n rs here there (omega (arith, small)) settles walk within

-- ---- few posts

module _ (plans : Plans) (most : ℕ) (nodes : List Node) (closed : IsClosedAtOnce plans most nodes) where
  abbrev HasFew : Node → Type 0
  HasFew node = posts node.cluster < most

  few_back : (node here : Node) → Covers plans node here → HasFew node → HasFew here
  few_back node here covers few = (let same = covers_posts plans node here covers in omega (arith, same, few))

  few_before : (r : ℕ) (here new : Node) → IsSure plans most here r → Goes plans r here new
      → HasPostsWithin most new.cluster → HasFew new → HasFew here
  few_before r here new sure goes within few = (let more = turn_posts plans r here new goes in omega (arith, more, few))

  are_few : (rs : List ℕ) (here there : Node) → IsSettledBy plans most nodes here → GoesOn plans rs here there
      → HasPostsWithin most there.cluster → HasFew there
  are_few rs here there settled walk within =
      all_hold plans most HasFew few_back few_before nodes closed closed.few (suc (length rs)) rs here there settled.0
      (omega arith) settled.1 walk within

  -- ---- turn by turn

  one_behind : (rs : List ℕ) (r : ℕ) (here mid new : Node) → GoesOn plans rs here mid → Goes plans r mid new
      → GoesOn plans (rs ++ r ∷ []) here new
  one_behind [] r here mid new walk goes = (new, subst (λ n. Goes plans r n new) walk goes, refl)
  one_behind (s ∷ rs) r here mid new walk goes = (walk.0, walk.1, one_behind rs r walk.0 mid new walk.2 goes)

  -- a run that came so far goes on so
  goes_on : (start : Node) → IsSettledBy plans most nodes start → (rs done : List ℕ) (here there : Node)
      → GoesOn plans done start here → HasFew here → GoesOn plans rs here there → HasFew there
  goes_on start settled [] done here there came less walk =
      let same = ap (λ (n : Node). posts n.cluster) walk in omega (arith, same, less)
  goes_on start settled (r ∷ rs) done here there came less walk =
      let one = turn_posts_most plans r here walk.0 walk.1 in
      let come = one_behind done r start here walk.0 came walk.1 in
      goes_on start settled rs (done ++ r ∷ []) walk.0 there come
      (are_few (done ++ r ∷ []) start walk.0 settled come (omega (arith, one, less))) walk.2

  pub walk_few : (rs : List ℕ) (start there : Node) → IsSettledBy plans most nodes start
      → HasPostsWithin most start.cluster → GoesOn plans rs start there → HasFew there
  walk_few rs start there settled within walk =
      goes_on start settled rs [] start there refl (are_few [] start start settled refl within) walk

-- ---- whatever holds at each node

module _ (plans : Plans) (most : ℕ) (Holds : Node → Type 0)
    (back : (node here : Node) → Covers plans node here → Holds node → Holds here)
    (before : (r : ℕ) (here new : Node) → IsSure plans most here r → Goes plans r here new
    → HasPostsWithin most new.cluster → Holds new → Holds here)
    (nodes : List Node) (closed : IsClosedAtOnce plans most nodes)
    (each : (i : ℕ) (node : Node) → slice_get nodes i ≡ Some node → Holds node) where
  pub walk_holds : (rs : List ℕ) (start there : Node) → IsSettledBy plans most nodes start
      → HasPostsWithin most start.cluster → GoesOn plans rs start there → Holds there
  walk_holds rs start there settled within walk =
      let few = walk_few plans most nodes closed rs start there settled within walk in
      all_hold plans most Holds back before nodes closed each (suc (length rs)) rs start there settled.0 (omega arith)
      settled.1 walk (omega (arith, few))

few : (plans : Plans) (most : ℕ) (nodes : List Node) (start : Node) → IsSettledBy plans most nodes start
    → HasPostsWithin most start.cluster → IsClosedAtOnce plans most nodes
    → (steps : List Step) (end : Cluster) → IsRun start.cluster steps end → FollowPlans plans start.had steps
    → length (hub_of end.journal).board.lines < most
few plans most nodes start settled within closed steps end run follow =
    walk_few plans most nodes closed (map (λ (e : Step). e.rank) steps) start (node_of end (had_after start.had steps))
    settled within (walk_of plans steps start.cluster end start.had run follow)

pub at_once_law : AtOnceLaw
at_once_law = record {
  few = few;
  ends = λ plans most nodes start settled within closed steps end run follow is.
      let less = few plans most nodes start settled within closed steps end run follow in
      sure_law plans most nodes start settled
      (record { each = λ i node there. inr (λ r rank has. closed.each i r node rank there has) })
      steps end run follow is (omega (arith, less));
}

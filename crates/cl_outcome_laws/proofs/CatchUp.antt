-- A cluster that is covered goes on, by turns that need only their ranks, to one that is alike the node.
use Rattle.std.proofs.Common.{◌≡◌, ℕ, zero, suc, ◌+◌, ◌<◌, ◌≤◌, ◌⊎◌, inl, inr, List, [], ◌∷◌, length, Some, refl, sym, ap, ◌∙◌, subst, arith}
use Rattle.std.specs.Prelude.{◌≢◌}
use Rattle.std.specs.List.{slice_get, slice_set}
use Rattle.std.proofs.lemmas.Bool.{cases_eq}
use Rattle.std.proofs.lemmas.Option.{same_Some, slice_get_within}
use Rattle.mp_wait_laws.proofs.Sets.{get-set_other}
use Rattle.mp_alike_laws.specs.Renaming.{Renaming}
use Rattle.mp_alike_laws.specs.Alike.{AlikeHubs}
use Rattle.cl_state.specs.declared.asking.Answer.{Answer}
use Rattle.cl_state.specs.declared.asking.Ask.{Ask}
use Rattle.cl_state.specs.Asked.{asked}
use Rattle.cl_state.specs.Rank.{Rank}
use Rattle.cl_state.specs.Told.{told}
use Rattle.cl_state.proofs.Moves.{told_at}
use Rattle.cl_trace.specs.declared.events.Kind.{Kind}
use Rattle.cl_machine.specs.declared.steps.Step.{Step}
use Rattle.cl_machine.specs.Boxes.{Box}
use Rattle.cl_machine.specs.Cluster.{CaseOf, Cluster}
use Rattle.cl_machine.specs.Journal.{Journal}
use Rattle.cl_order_laws.specs.Alike.{AlikeBoxes, AlikeRanks, AreEach, hub_of}
use Rattle.cl_order_laws.specs.Closed.{IsAhead, IsBehind, IsDone, IsSamePlace, NeedsOnlyRank, Node, Plans, one_more}
use Rattle.cl_order_laws.specs.Sure.{Goes, GoesOn}
use Rattle.cl_order_laws.proofs.Covered.{had_here, had_other, node_of, only_one}
use Rattle.cl_order_laws.proofs.Each.{set_here, set_length, set_set, was_there}
use Rattle.cl_order_laws.proofs.Ranks.{harts_alike}
use Rattle.cl_order_laws.proofs.Walks.{Covers}
use Rattle.cl_outcome_laws.specs.Graphs.{AreAlikeNodes, HaveHarts}
use Rattle.cl_outcome_laws.specs.Unending.{IsAfter, MayEnd}
use Rattle.cl_outcome_laws.proofs.Paths.{after_after, may_after, may_follow, mirror}

set_same : {A : Type 0} (xs : List A) (i : ℕ) (x : A) → slice_get xs i ≡ Some x → slice_set xs i x ≡ xs
set_same [] i x is = refl
set_same (y ∷ xs) zero x is = ap (λ z. z ∷ xs) (sym (same_Some y x is))
set_same (y ∷ xs) (suc i) x is = ap (λ zs. y ∷ zs) (set_same xs i x is)

-- the one that stands at a place inside
at_place : {A : Type 0} (xs : List A) (i : ℕ) → i < length xs → (x : A) × (slice_get xs i ≡ Some x)
at_place [] i low = absurd (omega (arith, low))
at_place (x ∷ xs) zero low = (x, refl)
at_place (x ∷ xs) (suc i) low = at_place xs i (omega (arith, low))

module _ (plans : Plans) where
  -- ---- one turn

  module _ (here : Node) (k : ℕ) (x : Rank) (stands : slice_get here.cluster.ranks k ≡ Some x)
      (low : plans k (here.had k) < length x.harts) where
    abbrev now : Rank
    now = told x (plans k (here.had k)) Answer.Alone (x.clock + 1)

    -- where such a turn leads
    abbrev next : Node
    next = node_of (record {
      ranks = slice_set here.cluster.ranks k now;
      journal = here.cluster.journal;
      boxes = here.cluster.boxes;
    }) (one_more here.had k)

    abbrev turn_as : Kind → Step
    turn_as kind = record { rank = k; hart = plans k (here.had k); stamp = x.clock + 1; kind = kind }

    goes_as : (kind : Kind) → CaseOf here.cluster (turn_as kind) x kind next.cluster → Goes plans k here next
    goes_as kind case = record {
      step = turn_as kind;
      rank = refl;
      hart = refl;
      leads = (x, stands, low, case);
      had = refl;
    }

    goes_alone : (q : Ask) → asked x (plans k (here.had k)) ≡ q → NeedsOnlyRank q → Goes plans k here next
    goes_alone Ask.Plain asks needs = goes_as Kind.Plain (asks, refl, refl)
    goes_alone Ask.Local asks needs = goes_as Kind.Local (asks, refl, refl)
    goes_alone Ask.Held asks needs = goes_as Kind.Held (asks, refl, refl)
    goes_alone Ask.Idle asks needs = goes_as Kind.Idle (asks, refl, refl)
    goes_alone (Ask.Hub request) asks needs = absurd needs
    goes_alone (Ask.Ready link part bytes) asks needs = absurd needs
    goes_alone (Ask.Look link part) asks needs = absurd needs
    goes_alone (Ask.Freed link part) asks needs = absurd needs

  -- ---- all such turns of one rank

  -- they lead to where the rank stands so and has had so many turns, and nothing else changed
  record Caught (here : Node) (k : ℕ) (then : Rank) (after : ℕ) : Type 0 where
    there : Node
    walk : IsAfter plans here there
    ranks : there.cluster.ranks ≡ slice_set here.cluster.ranks k then
    journal : there.cluster.journal ≡ here.cluster.journal
    boxes : there.cluster.boxes ≡ here.cluster.boxes
    had : there.had k ≡ after
    others : (s : ℕ) → k ≢ s → there.had s ≡ here.had s

  catch_one : (k n : ℕ) (here : Node) (x then : Rank) (after : ℕ) → slice_get here.cluster.ranks k ≡ Some x
      → IsAhead (plans k) n x (here.had k) then after → ((m : ℕ) → plans k m < length x.harts)
      → Caught here k then after
  catch_one k zero here x then after stands ahead low = record {
    there = here;
    walk = ([], refl);
    ranks = sym (set_same here.cluster.ranks k then (stands ∙ ap (λ z. Some z) (sym ahead.0)));
    journal = refl;
    boxes = refl;
    had = sym ahead.1;
    others = λ s apart. refl;
  }
  catch_one k (suc n) here x then after stands ahead low =
      let mid = next here k x stands (low (here.had k)) in
      let goes = goes_alone here k x stands (low (here.had k)) (asked x (plans k (here.had k))) refl ahead.0 in
      let told_now = now here k x stands (low (here.had k)) in
      let many = (told_at x (plans k (here.had k)) Answer.Alone (x.clock + 1)).harts in
      let rest = catch_one k n mid told_now then after (set_here here.cluster.ranks k told_now x stands)
      (subst (λ h. IsAhead (plans k) n told_now h then after) (sym (had_here here.had k)) ahead.1)
      (λ m. let below = low m in omega (arith, below, many)) in
      record {
        there = rest.there;
        walk = (k ∷ (rest.walk).0, (mid, goes, (rest.walk).1));
        ranks = rest.ranks ∙ set_set here.cluster.ranks k told_now then;
        journal = rest.journal;
        boxes = rest.boxes;
        had = rest.had;
        others = λ s apart. rest.others s apart ∙ had_other here.had k s apart;
      }

  -- the number of harts stays
  ahead_harts : (plan : ℕ → ℕ) (n : ℕ) (x : Rank) (had : ℕ) (then : Rank) (after : ℕ) → IsAhead plan n x had then after
      → length then.harts ≡ length x.harts
  ahead_harts plan zero x had then after ahead = ap (λ (z : Rank). length z.harts) ahead.0
  ahead_harts plan (suc n) x had then after ahead =
      ahead_harts plan n (told x (plan had) Answer.Alone (x.clock + 1)) (had + 1) then after ahead.1
      ∙ (told_at x (plan had) Answer.Alone (x.clock + 1)).harts

  -- ---- all ranks, one after another

  module _ (node : Node) (names : Renaming) where
    -- the first m ranks are alike the node's, the others will be
    record Catching (m : ℕ) (here : Node) : Type 0 where
      many : length node.cluster.ranks ≡ length here.cluster.ranks
      level : (r : ℕ) (x : Rank) → r < m → slice_get here.cluster.ranks r ≡ Some x
          → (y : Rank) × (slice_get node.cluster.ranks r ≡ Some y) × AlikeRanks names x y
          × (IsSamePlace (plans r) (here.had r) (node.had r) ⊎ IsDone (plans r) x)
      behind : (r : ℕ) (x : Rank) → m ≤ r → slice_get here.cluster.ranks r ≡ Some x
          → (y : Rank) × (slice_get node.cluster.ranks r ≡ Some y)
          × IsBehind (plans r) names x (here.had r) y (node.had r)
      hubs : AlikeHubs names (hub_of here.cluster.journal) (hub_of node.cluster.journal)
      boxes : AreEach AlikeBoxes here.cluster.boxes node.cluster.boxes
      harts : HaveHarts plans here.cluster

    module _ (m : ℕ) (here : Node) (low : m < length here.cluster.ranks) (at : Catching m here) where
      abbrev x : Rank
      x = (at_place here.cluster.ranks m low).0

      stands : slice_get here.cluster.ranks m ≡ Some x
      stands = (at_place here.cluster.ranks m low).1

      abbrev Behind : Type 0
      Behind = (y : Rank) × (slice_get node.cluster.ranks m ≡ Some y)
          × IsBehind (plans m) names x (here.had m) y (node.had m)

      own : Behind
      own = at.behind m x (omega arith) stands

      caught : Caught here m (own.2).then (own.2).after
      caught =
          let b = own.2 in
          catch_one m b.turns here x b.then b.after stands b.ahead (λ n. at.harts m n x stands)

      abbrev there : Node
      there = caught.there

      abbrev Level : ℕ → Rank → Type 0
      Level r z = (y : Rank) × (slice_get node.cluster.ranks r ≡ Some y) × AlikeRanks names z y
          × (IsSamePlace (plans r) (there.had r) (node.had r) ⊎ IsDone (plans r) z)

      is_then : (z : Rank) → slice_get there.cluster.ranks m ≡ Some z → (own.2).then ≡ z
      is_then z is =
          (was_there here.cluster.ranks m (own.2).then z (subst (λ xs. slice_get xs m ≡ Some z) caught.ranks is)).0

      level_here : (z : Rank) → slice_get there.cluster.ranks m ≡ Some z → Level m z
      level_here z is =
          let b = own.2 in
          subst (Level m) (is_then z is) (
            own.0,
            own.1,
            b.alike,
            subst (λ n. IsSamePlace (plans m) n (node.had m) ⊎ IsDone (plans m) b.then) (sym caught.had) b.place,
          )

      enough : (n : ℕ) (z : Rank) → slice_get there.cluster.ranks m ≡ Some z → plans m n < length z.harts
      enough n z is =
          let b = own.2 in
          let below = at.harts m n x stands in
          let many = ahead_harts (plans m) b.turns x (here.had m) b.then b.after b.ahead in
          let same = ap (λ (q : Rank). length q.harts) (is_then z is) in
          omega (arith, below, many, same)

      -- the others stand as they stood
      old : (r : ℕ) (z : Rank) → m ≢ r → slice_get there.cluster.ranks r ≡ Some z
          → slice_get here.cluster.ranks r ≡ Some z
      old r z apart is =
          sym (get-set_other here.cluster.ranks m r (own.2).then apart)
          ∙ sym (ap (λ xs. slice_get xs r) caught.ranks) ∙ is

      level_other : (r : ℕ) (z : Rank) → r < suc m → m ≢ r → slice_get there.cluster.ranks r ≡ Some z → Level r z
      level_other r z below apart is =
          let v = at.level r z (omega (arith, below, apart)) (old r z apart is) in (
            v.0,
            v.1,
            v.2,
            subst (λ n. IsSamePlace (plans r) n (node.had r) ⊎ IsDone (plans r) z) (sym (caught.others r apart)) v.3,
          )

      behind_other : (r : ℕ) (z : Rank) → m ≢ r → m ≤ r → slice_get there.cluster.ranks r ≡ Some z
          → (y : Rank) × (slice_get node.cluster.ranks r ≡ Some y)
          × IsBehind (plans r) names z (there.had r) y (node.had r)
      behind_other r z apart above is =
          let w = at.behind r z above (old r z apart is) in (
            w.0,
            w.1,
            subst (λ n. IsBehind (plans r) names z n w.0 (node.had r)) (sym (caught.others r apart)) w.2,
          )

      next_catching : Catching (suc m) there
      next_catching = record {
        many = at.many ∙ sym (ap length caught.ranks ∙ set_length here.cluster.ranks m (own.2).then);
        level = λ r z below is. elim (cases_eq m r) [
          | inl same ↦ subst (λ k. Level k z) same
              (level_here z (subst (λ k. slice_get there.cluster.ranks k ≡ Some z) (sym same) is))
          | inr apart ↦ level_other r z below apart is
        ];
        behind = λ r z above is.
            behind_other r z (λ same. absurd (omega (arith, above, same))) (omega (arith, above)) is;
        hubs = subst (λ (j : Journal). AlikeHubs names (hub_of j) (hub_of node.cluster.journal)) (sym caught.journal)
            at.hubs;
        boxes = subst (λ (bs : List Box). AreEach AlikeBoxes bs node.cluster.boxes) (sym caught.boxes) at.boxes;
        harts = λ r n z is. elim (cases_eq m r) [
          | inl same ↦ subst (λ k. plans k n < length z.harts) same
              (enough n z (subst (λ k. slice_get there.cluster.ranks k ≡ Some z) (sym same) is))
          | inr apart ↦ at.harts r n z (old r z apart is)
        ];
      }

    one_rank : (m : ℕ) (here : Node) → m < length here.cluster.ranks → Catching m here
        → (there : Node) × IsAfter plans here there × Catching (suc m) there
    one_rank m here low at = (there m here low at, (caught m here low at).walk, next_catching m here low at)

    all_ranks : (j m : ℕ) (here : Node) → m + j ≡ length here.cluster.ranks → Catching m here
        → (there : Node) × IsAfter plans here there × Catching (length there.cluster.ranks) there
    all_ranks zero m here whole at =
        let same : m ≡ length here.cluster.ranks = omega (arith, whole) in
        (here, ([], refl), subst (λ n. Catching n here) same at)
    all_ranks (suc j) m here whole at =
        let one = one_rank m here (omega (arith, whole)) at in
        let was = at.many in
        let is = (one.2).many in
        let rest = all_ranks j (suc m) one.0 (omega (arith, whole, was, is)) one.2 in
        (rest.0, after_after plans here one.0 rest.0 one.1 rest.1, rest.2)

  -- ---- it ends where the node does

  pub catch_up : (node here : Node) → Covers plans node here → HaveHarts plans here.cluster
      → (there : Node) × IsAfter plans here there × AreAlikeNodes plans there node
  catch_up node here covers harts =
      subst (λ n. (there : Node) × IsAfter plans here there × AreAlikeNodes plans there n)
      (sym (only_one node covers.node covers.index covers.there)) (
        c.0,
        c.1,
        record {
          names = covers.names;
          alike = record {
            ranks = record {
              many = (c.2).many;
              each = λ r x is.
                  let v = (c.2).level r x (slice_get_within (c.0).cluster.ranks r x is) is in (v.0, v.1, v.2);
            };
            hubs = (c.2).hubs;
            boxes = (c.2).boxes;
          };
          places = λ r x is. ((c.2).level r x (slice_get_within (c.0).cluster.ranks r x is) is).3;
        },
      )
    where
      c : (there : Node) × IsAfter plans here there
          × Catching covers.node covers.names (length there.cluster.ranks) there
      c = all_ranks covers.node covers.names (length here.cluster.ranks) 0 here (omega arith) (record {
        many = covers.many;
        level = λ r x below is. absurd (omega (arith, below));
        behind = λ r x above is. covers.ranks r x is;
        hubs = covers.hubs;
        boxes = covers.boxes;
        harts = harts;
      })

  pub may_back : (node here : Node) → Covers plans node here → HaveHarts plans here.cluster → MayEnd plans node
      → MayEnd plans here
  may_back node here covers harts may =
      let c = catch_up node here covers harts in
      may_after plans here c.0 c.1 (may_follow plans c.0 node (mirror plans c.0 node c.2) may)

  -- ---- plans that name harts that are there

  pub harts_covers : (node here : Node) → Covers plans node here → HaveHarts plans here.cluster
      → HaveHarts plans node.cluster
  harts_covers node here covers harts = λ r n y is.
      let there : slice_get covers.node.cluster.ranks r ≡ Some y =
      subst (λ (k : Node). slice_get k.cluster.ranks r ≡ Some y) (only_one node covers.node covers.index covers.there) is in
      let inside = slice_get_within covers.node.cluster.ranks r y there in
      let many = covers.many in
      let x = at_place here.cluster.ranks r (omega (arith, inside, many)) in
      let v = covers.ranks r x.0 x.1 in
      let b = v.2 in
      let ahead = ahead_harts (plans r) b.turns x.0 (here.had r) b.then b.after b.ahead in
      let alike = harts_alike covers.names b.then v.0 b.alike in
      let same = ap (λ (q : Rank). length q.harts) (same_Some v.0 y (sym v.1 ∙ there)) in
      let low = harts r n x.0 x.1 in
      omega (arith, ahead, alike, same, low)

  -- the rank whose turn it was is told something
  pub told_so : (old new : Cluster) (e : Step) (x : Rank) (kind : Kind) → CaseOf old e x kind new
      → (answer : Answer) × (new.ranks ≡ slice_set old.ranks e.rank (told x e.hart answer e.stamp))
  told_so old new e x Kind.Plain c = (Answer.Alone, ap (λ (n : Cluster). n.ranks) c.2)
  told_so old new e x Kind.Local c = (Answer.Alone, ap (λ (n : Cluster). n.ranks) c.2)
  told_so old new e x Kind.Held c = (Answer.Alone, ap (λ (n : Cluster). n.ranks) c.2)
  told_so old new e x Kind.Idle c = (Answer.Alone, ap (λ (n : Cluster). n.ranks) c.2)
  told_so old new e x (Kind.Hub a) c = (Answer.Reply a, ap (λ (n : Cluster). n.ranks) c.4)
  told_so old new e x Kind.Ready c = (Answer.Alone, ap (λ (n : Cluster). n.ranks) c.8)
  told_so old new e x Kind.Take c = (Answer.Taken c.2, ap (λ (n : Cluster). n.ranks) c.8)
  told_so old new e x Kind.Miss c = (Answer.Missed, ap (λ (n : Cluster). n.ranks) c.4)
  told_so old new e x Kind.Freed c = (Answer.Freed, ap (λ (n : Cluster). n.ranks) c.7)

  pub harts_turn : (r : ℕ) (here new : Node) → Goes plans r here new → HaveHarts plans here.cluster
      → HaveHarts plans new.cluster
  harts_turn r here new goes harts = λ s n z is.
      let e = goes.step in
      let y = goes.leads in
      let t = told_so here.cluster new.cluster e y.0 e.kind y.3 in
      let now = told y.0 e.hart t.0 e.stamp in
      let there : slice_get (slice_set here.cluster.ranks e.rank now) s ≡ Some z =
      subst (λ xs. slice_get xs s ≡ Some z) t.1 is in
      elim (cases_eq e.rank s) [
        | inl same ↦
            let w = was_there here.cluster.ranks e.rank now z
            (subst (λ k. slice_get (slice_set here.cluster.ranks e.rank now) k ≡ Some z) (sym same) there) in
            let low = harts s n y.0 (subst (λ k. slice_get here.cluster.ranks k ≡ Some y.0) same y.1) in
            let many = (told_at y.0 e.hart t.0 e.stamp).harts in
            let told_is = ap (λ (q : Rank). length q.harts) w.0 in
            omega (arith, low, many, told_is)
        | inr apart ↦ harts s n z (sym (get-set_other here.cluster.ranks e.rank s now apart) ∙ there)
      ]

  pub harts_walk : (rs : List ℕ) (here last : Node) → GoesOn plans rs here last → HaveHarts plans here.cluster
      → HaveHarts plans last.cluster
  harts_walk [] here last walk harts = subst (λ (n : Node). HaveHarts plans n.cluster) (sym walk) harts
  harts_walk (r ∷ rs) here last walk harts =
      harts_walk rs walk.0 last walk.2 (harts_turn r here walk.0 walk.1 harts)

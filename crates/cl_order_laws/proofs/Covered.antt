-- Each step from a cluster that is covered leads to one that is.
use Rattle.std.proofs.Common.{◌≡◌, ℕ, zero, suc, ◌+◌, ◌⊎◌, inl, inr, List, [], ◌∷◌, length, Some, refl, sym, ap, ◌∙◌, subst}
use Rattle.std.specs.Prelude.{◌==◌}
use Rattle.std.specs.List.{slice_get, slice_set}
use Rattle.std.proofs.lemmas.Bool.{cases_eq, eq-eqb, ne_eqb, cond-true, cond-false}
use Rattle.std.proofs.lemmas.Option.{same_Some}
use Rattle.mp_hub.specs.Hub.{HubView}
use Rattle.mp_wait_laws.proofs.Sets.{get-set_other}
use Rattle.mp_alike_laws.specs.Renaming.{Renaming, followed_by}
use Rattle.mp_alike_laws.specs.Alike.{AlikeHubs}
use Rattle.mp_alike_laws.proofs.Likeness.{board_on}
use Rattle.cl_state.specs.declared.asking.Answer.{Answer}
use Rattle.cl_state.specs.declared.asking.Ask.{Ask}
use Rattle.cl_state.specs.Asked.{asked}
use Rattle.cl_state.specs.Rank.{Rank}
use Rattle.cl_state.specs.Told.{told}
use Rattle.cl_state_laws.specs.VainLaws.{at_clock}
use Rattle.cl_state_laws.proofs.Vain.{vain_law}
use Rattle.cl_trace.specs.declared.events.Kind.{Kind}
use Rattle.cl_machine.specs.declared.steps.Step.{Step}
use Rattle.cl_machine.specs.Boxes.{Box}
use Rattle.cl_machine.specs.Cluster.{CaseOf, Cluster, IsRun, only_told}
use Rattle.cl_order_laws.specs.Alike.{AlikeBoxes, AlikeRanks, AreEach, Leads, at_stamp, hub_of}
use Rattle.cl_order_laws.specs.Closed.{FollowPlans, IsAhead, IsBehind, IsClosed, IsCovered, IsDone, IsSamePlace, NeedsOnlyRank, Node, Plans, Turns, had_after, one_more}
use Rattle.cl_order_laws.specs.Laws.{CoveredLaw}
use Rattle.cl_order_laws.specs.Sure.{Goes, WhereverLeads}
use Rattle.cl_order_laws.proofs.Ahead.{behind_on, done_back, one_on, same_hart}
use Rattle.cl_order_laws.proofs.Boxes.{boxes_on}
use Rattle.cl_order_laws.proofs.Each.{set_here, set_length, was_there}
use Rattle.cl_order_laws.proofs.GoAlike.{Went, goes}
use Rattle.cl_order_laws.proofs.Steps.{step_leads}

pub hubs_on : (names more : Renaming) (a b c : HubView) → AlikeHubs names a b → AlikeHubs more b c
    → AlikeHubs (followed_by names more) a c
hubs_on names more a b c f g = record {
  links = g.links ∙ f.links;
  board = board_on names more a.board b.board c.board f.board g.board;
  claims = g.claims ∙ f.claims;
  sides = λ s. g.sides s ∙ f.sides s;
  reserved = λ link. g.reserved link ∙ f.reserved link;
  senders = λ link. g.senders link ∙ f.senders link;
}

pub each_on : (xs ys zs : List Box) → AreEach AlikeBoxes xs ys → AreEach AlikeBoxes ys zs → AreEach AlikeBoxes xs zs
each_on xs ys zs f g = record {
  many = g.many ∙ f.many;
  each = λ i x here.
      let y = f.each i x here in
      let z = g.each i y.0 y.1 in
      (z.0, z.1, boxes_on x y.0 z.0 y.2 z.2);
}

-- ---- what covers

abbrev pub IsOne : List Node → Node → Type 0
IsOne nodes node = (i : ℕ) × (slice_get nodes i ≡ Some node)

module _ (plans : Plans) (nodes more : List Node) (here : Node) (cov : IsCovered plans nodes here) where
  -- where the node that covers is one of others, one of these covers too
  pub covered_among : IsOne more cov.node → IsCovered plans more here
  covered_among one = record {
    index = one.0;
    node = cov.node;
    there = one.1;
    names = cov.names;
    many = cov.many;
    ranks = cov.ranks;
    hubs = cov.hubs;
    boxes = cov.boxes;
  }

  -- and where the node that covers is itself covered by others, these cover too
  pub covered_on : IsCovered plans more cov.node → IsCovered plans more here
  covered_on next = record {
    index = next.index;
    node = next.node;
    there = next.there;
    names = followed_by cov.names next.names;
    many = next.many ∙ cov.many;
    ranks = λ r rank is.
        let v = cov.ranks r rank is in
        let w = next.ranks r v.0 v.1 in (
          w.0,
          w.1,
          behind_on (plans r) cov.names next.names rank (here.had r) v.0 ((cov.node).had r) w.0 ((next.node).had r) v.2
              w.2,
        );
    hubs =
        hubs_on cov.names next.names (hub_of here.cluster.journal) (hub_of cov.node.cluster.journal)
        (hub_of next.node.cluster.journal) cov.hubs next.hubs;
    boxes = each_on here.cluster.boxes cov.node.cluster.boxes next.node.cluster.boxes cov.boxes next.boxes;
  }

-- the one of a list
pub only_one : (n m : Node) (i : ℕ) → slice_get (n ∷ []) i ≡ Some m → n ≡ m
only_one n m zero is = same_Some n m is
only_one n m (suc i) is = absurd (cc)

-- ---- one turn

pub had_here : (had : Turns) (r : ℕ) → one_more had r r ≡ had r + 1
had_here had r = cond-true (r == r) (had r + 1) (had r) (eq-eqb r r refl)

pub had_other : (had : Turns) (r s : ℕ) → (r ≡ s → ⊥) → one_more had r s ≡ had s
had_other had r s other = cond-false (s == r) (had s + 1) (had s) (ne_eqb s r (λ e. other (sym e)))

-- a turn that needs only its rank changes nothing else
pub alone : (old new : Cluster) (e : Step) (x : Rank) (kind : Kind) → CaseOf old e x kind new → NeedsOnlyRank (asked x e.hart)
    → (new ≡ only_told old e x Answer.Alone) × (e.stamp ≡ x.clock + 1)
alone old new e x Kind.Plain c needs = (c.2, c.1)
alone old new e x Kind.Local c needs = (c.2, c.1)
alone old new e x Kind.Held c needs = (c.2, c.1)
alone old new e x Kind.Idle c needs = (c.2, c.1)
alone old new e x (Kind.Hub r) c needs = absurd (subst NeedsOnlyRank c.1 needs)
alone old new e x Kind.Ready c needs = absurd (subst NeedsOnlyRank c.4 needs)
alone old new e x Kind.Take c needs = absurd (subst NeedsOnlyRank c.4 needs)
alone old new e x Kind.Freed c needs = absurd (subst NeedsOnlyRank c.3 needs)
alone old new e x Kind.Miss c needs = elim c.2 [
  | inl look ↦ absurd (subst NeedsOnlyRank look needs)
  | inr freed ↦ absurd (subst NeedsOnlyRank freed needs)
]

abbrev pub node_of : Cluster → Turns → Node
node_of cluster had = record { cluster = cluster; had = had }

-- the node goes by a turn of the rank, to one that covers
pub record GoesToo (plans : Plans) (node here : Node) (r : ℕ) : Type 0 where
  pub next : Node
  pub goes : Goes plans r node next
  pub covers : IsCovered plans (next ∷ []) here

module _ (plans : Plans) (nodes : List Node) (c new : Cluster) (had : Turns) (e : Step)
    (leads : Leads c e new) (hart : e.hart ≡ plans e.rank (had e.rank)) (cov : IsCovered plans nodes (node_of c had)) where
  abbrev x : Rank
  x = leads.0

  -- the rank that had the turn goes on as said, and all others stand as they stood
  stays : (z : Rank) → new.ranks ≡ slice_set c.ranks e.rank z → AlikeHubs cov.names (hub_of new.journal) (hub_of cov.node.cluster.journal)
      → AreEach AlikeBoxes new.boxes cov.node.cluster.boxes
      → (other : Rank) → slice_get cov.node.cluster.ranks e.rank ≡ Some other
      → IsBehind (plans e.rank) cov.names z (had e.rank + 1) other (cov.node.had e.rank)
      → IsCovered plans nodes (node_of new (one_more had e.rank))
  stays z ranks hubs boxes other there behind = record {
    index = cov.index;
    node = cov.node;
    there = cov.there;
    names = cov.names;
    many = cov.many ∙ sym (ap length ranks ∙ set_length c.ranks e.rank z);
    ranks = λ s rank here. elim (cases_eq e.rank s) [
      | inl same ↦
          let at : slice_get (slice_set c.ranks e.rank z) e.rank ≡ Some rank =
          subst (λ xs. slice_get xs e.rank ≡ Some rank) ranks
          (subst (λ k. slice_get new.ranks k ≡ Some rank) (sym same) here) in
          let is : z ≡ rank = (was_there c.ranks e.rank z rank at).0 in (
            other,
            subst (λ k. slice_get cov.node.cluster.ranks k ≡ Some other) same there,
            subst (λ k. IsBehind (plans k) cov.names rank (one_more had e.rank k) other (cov.node.had k)) same
                (subst (λ q. IsBehind (plans e.rank) cov.names q (one_more had e.rank e.rank) other (cov.node.had e.rank)) is
                (subst (λ n. IsBehind (plans e.rank) cov.names z n other (cov.node.had e.rank))
                (sym (had_here had e.rank)) behind)),
          )
      | inr apart ↦
          let old : slice_get c.ranks s ≡ Some rank =
          sym (get-set_other c.ranks e.rank s z apart) ∙ sym (ap (λ xs. slice_get xs s) ranks) ∙ here in
          let v = cov.ranks s rank old in
          (v.0, v.1, subst (λ n. IsBehind (plans s) cov.names rank n v.0 (cov.node.had s)) (sym (had_other had e.rank s apart)) v.2)
    ];
    hubs = hubs;
    boxes = boxes;
  }

  -- the turn needed only its rank
  needed : NeedsOnlyRank (asked x e.hart)
      → (other : Rank) → slice_get cov.node.cluster.ranks e.rank ≡ Some other
      → IsBehind (plans e.rank) cov.names (told x e.hart Answer.Alone (x.clock + 1)) (had e.rank + 1) other (cov.node.had e.rank)
      → IsCovered plans nodes (node_of new (one_more had e.rank))
  needed needs other there behind =
      let a = alone c new e x e.kind leads.3 needs in
      stays (told x e.hart Answer.Alone (x.clock + 1))
      (ap (λ (n : Cluster). n.ranks) a.0 ∙ ap (λ s. slice_set c.ranks e.rank (told x e.hart Answer.Alone s)) a.1)
      (subst (λ (n : Cluster). AlikeHubs cov.names (hub_of n.journal) (hub_of cov.node.cluster.journal)) (sym a.0) cov.hubs)
      (subst (λ (n : Cluster). AreEach AlikeBoxes n.boxes cov.node.cluster.boxes) (sym a.0) cov.boxes)
      other there behind

  -- all harts of the plan were stopped
  idles : (other : Rank) → slice_get cov.node.cluster.ranks e.rank ≡ Some other → AlikeRanks cov.names x other
      → IsDone (plans e.rank) x → IsCovered plans nodes (node_of new (one_more had e.rank))
  idles other there alike done =
      let v = (vain_law.stopped) x (plans e.rank (had e.rank)) (x.clock + 1) Answer.Alone (done (had e.rank)) in
      let asks : asked x e.hart ≡ Ask.Idle = ap (asked x) hart ∙ v.0 in
      let leaves : told x e.hart Answer.Alone (x.clock + 1) ≡ at_clock x (x.clock + 1) =
      ap (λ h. told x h Answer.Alone (x.clock + 1)) hart ∙ v.1 in
      needed (subst NeedsOnlyRank (sym asks) tt) other there
      (subst (λ q. IsBehind (plans e.rank) cov.names q (had e.rank + 1) other (cov.node.had e.rank)) (sym leaves) (record {
        turns = 0;
        then = at_clock x (x.clock + 1);
        after = had e.rank + 1;
        ahead = (refl, refl);
        alike = (alike.0, alike.1);
        place = inr done;
      }))

  abbrev Here : Node
  Here = node_of new (one_more had e.rank)

  abbrev Along : Type 0
  Along = Went cov.names c cov.node.cluster new e

  abbrev next_of : Along → Node
  next_of went = node_of went.then (one_more cov.node.had e.rank)

  abbrev Goal : Node → ℕ → Rank → Type 0
  Goal next s rank = (o : Rank) × (slice_get next.cluster.ranks s ≡ Some o)
      × IsBehind (plans s) cov.names rank (one_more had e.rank s) o (next.had s)

  -- the node goes by the same turn
  both_go : (other : Rank) → slice_get cov.node.cluster.ranks e.rank ≡ Some other → AlikeRanks cov.names x other
      → IsSamePlace (plans e.rank) (had e.rank) (cov.node.had e.rank) → GoesToo plans cov.node Here e.rank
  both_go other there alike same = record {
    next = next_of went;
    goes = record {
      step = at_stamp e went.stamp;
      rank = refl;
      hart = hart ∙ same_hart (plans e.rank) (had e.rank) (cov.node.had e.rank) same;
      leads = went.leads;
      had = refl;
    };
    covers = record {
      index = 0;
      node = next_of went;
      there = refl;
      names = cov.names;
      many =
          ap length went.others ∙ set_length cov.node.cluster.ranks e.rank went.right ∙ cov.many
          ∙ sym (ap length went.ranks ∙ set_length c.ranks e.rank went.left);
      ranks = λ s rank here. elim (cases_eq e.rank s) [
        | inl same ↦ subst (λ k. Goal (next_of went) k rank) same
            (turned rank (subst (λ k. slice_get new.ranks k ≡ Some rank) (sym same) here))
        | inr apart ↦ beside s rank apart here
      ];
      hubs = went.hubs;
      boxes = went.boxes;
    };
  }
    where
      went : Along
      went =
          goes cov.names c cov.node.cluster e cov.hubs cov.boxes x other there alike leads.2 e.kind refl new leads.3

      turned : (rank : Rank) → slice_get new.ranks e.rank ≡ Some rank → Goal (next_of went) e.rank rank
      turned rank here =
          let w = was_there c.ranks e.rank went.left rank (subst (λ xs. slice_get xs e.rank ≡ Some rank) went.ranks here) in (
            went.right,
            ap (λ xs. slice_get xs e.rank) went.others ∙ set_here cov.node.cluster.ranks e.rank went.right other there,
            record {
              turns = 0;
              then = rank;
              after = one_more had e.rank e.rank;
              ahead = (refl, refl);
              alike = subst (λ q. AlikeRanks cov.names q went.right) w.0 went.alike;
              place = inl
                  (subst (λ n. IsSamePlace (plans e.rank) n (one_more cov.node.had e.rank e.rank)) (sym (had_here had e.rank))
                  (subst (λ n. IsSamePlace (plans e.rank) (had e.rank + 1) n) (sym (had_here cov.node.had e.rank))
                  (one_on (plans e.rank) (had e.rank) (cov.node.had e.rank) same)));
            },
          )

      beside : (s : ℕ) (rank : Rank) → (e.rank ≡ s → ⊥) → slice_get new.ranks s ≡ Some rank → Goal (next_of went) s rank
      beside s rank apart here =
          let old : slice_get c.ranks s ≡ Some rank =
          sym (get-set_other c.ranks e.rank s went.left apart) ∙ sym (ap (λ xs. slice_get xs s) went.ranks) ∙ here in
          let v = cov.ranks s rank old in (
            v.0,
            ap (λ xs. slice_get xs s) went.others
                ∙ get-set_other cov.node.cluster.ranks e.rank s went.right apart ∙ v.1,
            subst (λ n. IsBehind (plans s) cov.names rank n v.0 (one_more cov.node.had e.rank s))
                (sym (had_other had e.rank s apart))
                (subst (λ n. IsBehind (plans s) cov.names rank (had s) v.0 n)
                (sym (had_other cov.node.had e.rank s apart)) v.2),
          )

  module _ (A : Type 0)
      (what : (other : Rank) → slice_get cov.node.cluster.ranks e.rank ≡ Some other → IsDone (plans e.rank) other ⊎ A) where
    -- the rank stands as the node's does
    stands : (other : Rank) → slice_get cov.node.cluster.ranks e.rank ≡ Some other → AlikeRanks cov.names x other
        → IsSamePlace (plans e.rank) (had e.rank) (cov.node.had e.rank) ⊎ IsDone (plans e.rank) x
        → IsCovered plans nodes Here ⊎ (A × GoesToo plans cov.node Here e.rank)
    stands other there alike (inr done) = inl (idles other there alike done)
    stands other there alike (inl same) = elim (what other there) [
      | inl done ↦ inl (idles other there alike (done_back cov.names x other alike (plans e.rank) done))
      | inr a ↦ inr (a, both_go other there alike same)
    ]

    -- the same node covers still, or the node goes too
    pub step_goes : IsCovered plans nodes Here ⊎ (A × GoesToo plans cov.node Here e.rank)
    step_goes =
        let v = cov.ranks e.rank x leads.1 in
        let b = v.2 in
        go v.0 v.1 b.turns b.then b.after b.ahead b.alike b.place
      where
        go : (other : Rank) → slice_get cov.node.cluster.ranks e.rank ≡ Some other → (n : ℕ) (then : Rank) (after : ℕ)
            → IsAhead (plans e.rank) n x (had e.rank) then after → AlikeRanks cov.names then other
            → IsSamePlace (plans e.rank) after (cov.node.had e.rank) ⊎ IsDone (plans e.rank) then
            → IsCovered plans nodes Here ⊎ (A × GoesToo plans cov.node Here e.rank)
        go other there zero then after ahead alike place =
            stands other there (subst (λ q. AlikeRanks cov.names q other) ahead.0 alike)
            (subst (λ q. IsSamePlace (plans e.rank) (had e.rank) (cov.node.had e.rank) ⊎ IsDone (plans e.rank) q) ahead.0
            (subst (λ n. IsSamePlace (plans e.rank) n (cov.node.had e.rank) ⊎ IsDone (plans e.rank) then) ahead.1 place))
        go other there (suc n) then after ahead alike place =
            inl (needed (subst (λ h. NeedsOnlyRank (asked x h)) (sym hart) ahead.0) other there
            (subst (λ h. IsBehind (plans e.rank) cov.names (told x h Answer.Alone (x.clock + 1)) (had e.rank + 1) other
            (cov.node.had e.rank)) (sym hart)
            (record { turns = n; then = then; after = after; ahead = ahead.1; alike = alike; place = place })))

  -- where the node that covers is closed in the rank, the list covers again
  pub step_covered : ((other : Rank) → slice_get cov.node.cluster.ranks e.rank ≡ Some other
      → IsDone (plans e.rank) other ⊎ WhereverLeads plans cov.node e.rank (IsCovered plans nodes)) → IsCovered plans nodes Here
  step_covered what = elim (step_goes (WhereverLeads plans cov.node e.rank (IsCovered plans nodes)) what) [
    | inl same ↦ same
    | inr v ↦ on (v.1).next (v.1).goes v.0 (v.1).covers
  ]
    where
      on : (next : Node) → Goes plans e.rank cov.node next → WhereverLeads plans cov.node e.rank (IsCovered plans nodes)
          → IsCovered plans (next ∷ []) Here → IsCovered plans nodes Here
      on next goes moves covers =
          covered_on plans (next ∷ []) nodes Here covers
          (subst (λ n. IsCovered plans nodes n) (only_one next covers.node covers.index covers.there)
          (subst (λ had. IsCovered plans nodes (node_of next.cluster had)) (sym goes.had)
          (moves goes.step next.cluster goes.rank goes.hart goes.leads)))

run_covered : (plans : Plans) (nodes : List Node) → IsClosed plans nodes → (steps : List Step) (c end : Cluster)
    (had : Turns) → IsCovered plans nodes (node_of c had) → IsRun c steps end → FollowPlans plans had steps
    → IsCovered plans nodes (node_of end (had_after had steps))
run_covered plans nodes closed [] c end had cov run follow =
    subst (λ (x : Cluster). IsCovered plans nodes (node_of x had)) (sym run) cov
run_covered plans nodes closed (e ∷ steps) c end had cov run follow =
    run_covered plans nodes closed steps run.0 end (one_more had e.rank)
    (step_covered plans nodes c run.0 had e (step_leads c run.0 e run.1) follow.0 cov
    (λ other there. closed.each cov.index e.rank cov.node other cov.there there)) run.2 follow.1

pub covered_law : CoveredLaw
covered_law plans nodes start cov closed steps end run follow =
    run_covered plans nodes closed steps start.cluster end start.had cov run follow

-- Walks: turns of ranks by their plans, how many posts they make, and how a node follows where it covers.
use Rattle.std.proofs.Common.{◌≡◌, ℕ, ◌+◌, ◌≤◌, ◌⊎◌, inl, inr, List, [], ◌∷◌, length, map, Bool, true, false, cond, refl, sym, ap, ◌∙◌, subst, arith}
use Rattle.std.specs.Prelude.{◌==◌}
use Rattle.mp_match.specs.declared.posts.Line.{Line}
use Rattle.mp_match.proofs.Lines.{add_length}
use Rattle.mp_hub.specs.Hub.{HubView, hub_after, outcome}
use Rattle.mp_hub.proofs.Histories.{hub_more}
use Rattle.mp_wait_laws.proofs.Moves.{GrowsBy, all, fits_all, moves}
use Rattle.cl_journal.specs.declared.entries.Entry.{Entry}
use Rattle.cl_journal.specs.Journal.{call_of, calls_of}
use Rattle.cl_journal.proofs.History.{calls_of-snoc}
use Rattle.cl_state.specs.Rank.{Rank}
use Rattle.cl_trace.specs.declared.events.Kind.{Kind}
use Rattle.cl_machine.specs.declared.steps.Step.{Step}
use Rattle.cl_machine.specs.Cluster.{CaseOf, Cluster, IsRun}
use Rattle.cl_machine.specs.Journal.{Journal, with_entry}
use Rattle.cl_order_laws.specs.Alike.{Leads, hub_of}
use Rattle.cl_order_laws.specs.Closed.{FollowPlans, IsCovered, IsEnd, Node, Plans, Turns, had_after, one_more}
use Rattle.cl_order_laws.specs.Laws.{AreAlike}
use Rattle.cl_order_laws.specs.Sure.{Goes, GoesOn}
use Rattle.cl_order_laws.proofs.Covered.{GoesToo, node_of, only_one, step_goes}
use Rattle.cl_order_laws.proofs.Ends.{end_alike}
use Rattle.cl_order_laws.proofs.Steps.{step_leads}

-- ---- posts

abbrev pub posts : Cluster → ℕ
posts cluster = length (hub_of cluster.journal).board.lines

-- the hub behind one entry more
pub hub_entry : (journal : Journal) (e : Entry)
    → hub_of (with_entry journal e) ≡ (outcome (hub_of journal) e.rank e.request).1
hub_entry journal e =
    ap (hub_after journal.links) (calls_of-snoc journal.entries e)
    ∙ hub_more journal.links (calls_of journal.entries) (call_of e)

longer : (r : ℕ) (old new : List Line) → GrowsBy all r old new
    → (length old ≤ length new) × (length new ≤ length old + 1)
longer r old new (inl same) = (let e = ap length same in (omega (arith, e), omega (arith, e)))
longer r old new (inr g) =
    (let e = ap length g.2 ∙ add_length old g.0 in (omega (arith, e), omega (arith, e)))

-- no fewer, and at most one more
abbrev pub IsOneMore : ℕ → ℕ → Type 0
IsOneMore old new = (old ≤ new) × (new ≤ old + 1)

call_posts : (journal : Journal) (e : Entry)
    → IsOneMore (length (hub_of journal).board.lines) (length (hub_of (with_entry journal e)).board.lines)
call_posts journal e =
    let k = (outcome (hub_of journal) e.rank e.request).1 in
    let g = longer e.rank (hub_of journal).board.lines k.board.lines
    (moves all (hub_of journal) e.rank e.request (fits_all e.rank e.request)).lines in
    let same : length (hub_of (with_entry journal e)).board.lines ≡ length k.board.lines =
    ap (λ (h : HubView). length h.board.lines) (hub_entry journal e) in
    let low = g.0 in
    let high = g.1 in
    (omega (arith, low, same), omega (arith, high, same))

module _ (old new : Cluster) (e : Step) (x : Rank) where
  same_posts : old.journal ≡ new.journal → IsOneMore (posts old) (posts new)
  same_posts same =
      (let k : posts old ≡ posts new = ap (λ j. length (hub_of j).board.lines) same in
      (omega (arith, k), omega (arith, k)))

  case_posts : (kind : Kind) → CaseOf old e x kind new → IsOneMore (posts old) (posts new)
  case_posts Kind.Plain c = same_posts (ap (λ (k : Cluster). k.journal) (sym c.2))
  case_posts Kind.Local c = same_posts (ap (λ (k : Cluster). k.journal) (sym c.2))
  case_posts Kind.Held c = same_posts (ap (λ (k : Cluster). k.journal) (sym c.2))
  case_posts Kind.Idle c = same_posts (ap (λ (k : Cluster). k.journal) (sym c.2))
  case_posts (Kind.Hub r) c =
      let g = call_posts old.journal
      (record { rank = e.rank; hart = e.hart; clock = x.clock; stamp = e.stamp; request = c.0; reply = r }) in
      let same = ap posts c.4 in
      let low = g.0 in
      let high = g.1 in
      (omega (arith, low, same), omega (arith, high, same))
  case_posts Kind.Ready c = same_posts (ap (λ (k : Cluster). k.journal) (sym c.8))
  case_posts Kind.Take c = same_posts (ap (λ (k : Cluster). k.journal) (sym c.8))
  case_posts Kind.Freed c = same_posts (ap (λ (k : Cluster). k.journal) (sym c.7))
  case_posts Kind.Miss c = same_posts (ap (λ (k : Cluster). k.journal) (sym c.4))

one_posts : (plans : Plans) (r : ℕ) (old new : Node) → Goes plans r old new
    → IsOneMore (posts old.cluster) (posts new.cluster)
one_posts plans r old new goes =
    let leads = goes.leads in
    case_posts old.cluster new.cluster goes.step leads.0 (goes.step).kind leads.3

pub turn_posts : (plans : Plans) (r : ℕ) (old new : Node) → Goes plans r old new → posts old.cluster ≤ posts new.cluster
turn_posts plans r old new goes = (one_posts plans r old new goes).0

pub turn_posts_most : (plans : Plans) (r : ℕ) (old new : Node) → Goes plans r old new
    → posts new.cluster ≤ posts old.cluster + 1
turn_posts_most plans r old new goes = (one_posts plans r old new goes).1

pub walk_posts : (plans : Plans) (rs : List ℕ) (old new : Node) → GoesOn plans rs old new
    → posts old.cluster ≤ posts new.cluster
walk_posts plans [] old new walk = (let e = ap (λ (n : Node). posts n.cluster) walk in omega (arith, e))
walk_posts plans (r ∷ rs) old new walk =
    let one = turn_posts plans r old walk.0 walk.1 in
    let rest = walk_posts plans rs walk.0 new walk.2 in
    omega (arith, one, rest)

pub alike_posts : (a b : Cluster) → AreAlike a b → posts b ≡ posts a
alike_posts a b alike = (((alike.1).hubs).board).many

-- ---- the turns of a run

pub one_swapped : (had : Turns) (r s : ℕ) → one_more (one_more had r) s ≡ one_more (one_more had s) r
one_swapped had r s = λ i t. swapped (t == s) (t == r) (had t) i
  where
    swapped : (b c : Bool) (n : ℕ)
        → cond b (cond c (n + 1) n + 1) (cond c (n + 1) n) ≡ cond c (cond b (n + 1) n + 1) (cond b (n + 1) n)
    swapped true true n = refl
    swapped true false n = refl
    swapped false true n = refl
    swapped false false n = refl

pub walk_of : (plans : Plans) (steps : List Step) (c end : Cluster) (had : Turns) → IsRun c steps end
    → FollowPlans plans had steps
    → GoesOn plans (map (λ (e : Step). e.rank) steps) (node_of c had) (node_of end (had_after had steps))
walk_of plans [] c end had run follow = ap (λ x. node_of x had) run
walk_of plans (e ∷ es) c end had run follow = (
  node_of run.0 (one_more had e.rank),
  record { step = e; rank = refl; hart = follow.0; leads = step_leads c run.0 e run.1; had = refl },
  walk_of plans es run.0 end (one_more had e.rank) run.2 follow.1,
)

-- ---- one that covers follows

module _ (plans : Plans) where
  abbrev pub Covers : Node → Node → Type 0
  Covers node here = IsCovered plans (node ∷ []) here

  -- a turn, as a step of its own rank
  abbrev pub Stepped : ℕ → Node → Node → Type 0
  Stepped r here mid = (e : Step) × (e.rank ≡ r) × (e.hart ≡ plans e.rank (here.had e.rank))
      × Leads here.cluster e mid.cluster × (mid ≡ node_of mid.cluster (one_more here.had e.rank))

  pub stepped : (r : ℕ) (here mid : Node) → Goes plans r here mid → Stepped r here mid
  stepped r here mid goes = (
    goes.step,
    goes.rank,
    goes.hart ∙ ap (λ s. plans s (here.had s)) (sym goes.rank),
    goes.leads,
    ap (λ had. node_of mid.cluster had) (goes.had ∙ ap (one_more here.had) (sym goes.rank)),
  )

  -- the node goes by a turn to one that covers, or covers still
  pub follow_turn : (r : ℕ) (node here mid : Node) → Covers node here → Goes plans r here mid
      → Covers node mid ⊎ GoesToo plans node mid r
  follow_turn r node here mid cov goes =
      let s = stepped r here mid goes in
      let same = only_one node cov.node cov.index cov.there in
      elim (step_goes plans (node ∷ []) here.cluster mid.cluster here.had s.0 s.3 s.2 cov (Unit {0})
      (λ other there. inr tt)) [
        | inl covers ↦ inl (subst (Covers node) (sym s.4) covers)
        | inr v ↦ inr
            (subst (λ n. GoesToo plans n mid r) (sym same)
            (subst (λ k. GoesToo plans cov.node mid k) s.1
            (subst (λ n. GoesToo plans cov.node n (s.0).rank) (sym s.4) v.1)))
      ]

  -- turns lead from the node to one that covers, and they are no more than so many
  pub record FollowsOn (many : ℕ) (node there : Node) : Type 0 where
    pub ranks : List ℕ
    pub last : Node
    pub walk : GoesOn plans ranks node last
    pub most : length ranks ≤ many
    pub covers : Covers last there

  pub follow_on : (rs : List ℕ) (node here there : Node) → Covers node here → GoesOn plans rs here there
      → FollowsOn (length rs) node there
  follow_on [] node here there cov walk = record {
    ranks = [];
    last = node;
    walk = refl;
    most = omega arith;
    covers = subst (Covers node) (sym walk) cov;
  }
  follow_on (r ∷ rs) node here there cov walk = elim (follow_turn r node here walk.0 cov walk.1) [
    | inl covers ↦
        let f = follow_on rs node walk.0 there covers walk.2 in
        record {
          ranks = f.ranks;
          last = f.last;
          walk = f.walk;
          most = (let m = f.most in omega (arith, m));
          covers = f.covers;
        }
    | inr too ↦
        let f = follow_on rs too.next walk.0 there too.covers walk.2 in
        record {
          ranks = r ∷ f.ranks;
          last = f.last;
          walk = (too.next, too.goes, f.walk);
          most = (let m = f.most in omega (arith, m));
          covers = f.covers;
        }
  ]

  pub covers_posts : (node here : Node) → Covers node here → posts node.cluster ≡ posts here.cluster
  covers_posts node here cov =
      ap (λ (n : Node). posts n.cluster) (only_one node cov.node cov.index cov.there) ∙ ((cov.hubs).board).many

  -- and where it came to an end so does the node, to one that is alike
  pub record Follows (many : ℕ) (node end : Node) : Type 0 where
    pub ranks : List ℕ
    pub last : Node
    pub walk : GoesOn plans ranks node last
    pub most : length ranks ≤ many
    pub alike : AreAlike end.cluster last.cluster

  pub follow : (rs : List ℕ) (node here end : Node) → Covers node here → GoesOn plans rs here end
      → IsEnd plans end.cluster → Follows (length rs) node end
  follow rs node here end cov walk is =
      let f = follow_on rs node here end cov walk in
      let at = f.covers in
      record {
        ranks = f.ranks;
        last = f.last;
        walk = f.walk;
        most = f.most;
        alike = subst (λ (n : Node). AreAlike end.cluster n.cluster)
            (sym (only_one f.last at.node at.index at.there))
            (at.names, end_alike plans end.cluster is (f.last ∷ []) end.had at);
      }

-- The search as a whole.
use Rattle.std.specs.Prelude.{ℕ, zero, suc, ◌+◌, ◌-◌, ◌<◌, ◌≤◌, ◌≡◌, ◌⊎◌, List, [], ◌∷◌, ◌++◌, length, option_map, reverse, slice_get, Option, None, Some, Bool, true, false, Result, Ok, Err, IfOk, IfSome, is_some, map}
use Rattle.std.proofs.Common.{refl, sym, ap, ◌∙◌, subst, arith, inl, inr}
use Rattle.std.proofs.lemmas.Bool.{cases_eq}
use Rattle.std.proofs.lemmas.List.{length-append, reverse-append, reverse-reverse}
use Rattle.std.proofs.lemmas.Option.{same_Some, slice_get_within}
use Rattle.rv_image_types.specs.declared.images.ImageParts.{ImageParts}
use Rattle.cl_machine.specs.declared.steps.Step.{Step}
use Rattle.cl_turns.specs.declared.Turn.{Turn}
use Rattle.cl_machine.specs.Cluster.{Cluster, IsRun}
use Rattle.cl_order_laws.specs.Alike.{hub_of}
use Rattle.cl_order_laws.specs.Closed.{FollowPlans, IsCovered, IsEnd, Node, had_after}
use Rattle.cl_order_laws.specs.Orders.{turn_of}
use Rattle.cl_order_laws.proofs.AtOnce.{at_once_law}
use Rattle.cl_order_laws.proofs.Deadlocks.{ends_law}
use Rattle.cl_order_laws.proofs.Ends.{every_end_law}
use Rattle.cl_order_laws.proofs.Walks.{covers_posts, walk_of}
use Rattle.cl_order_laws.proofs.Walks.{follow as follow_walk}
use Rattle.cl_moves.specs.Standing.{IsStart, IsWay, StandsAt, by_order, first_node, node_of}
use Rattle.cl_moves.specs.Posts.{most_posts}
use Rattle.cl_moves.specs.declared.standing.Standing.{Standing}
use Rattle.cl_explore.specs.Kept.{IsBefore, IsFound, IsLed}
use Rattle.rv_image_types.specs.Image.{IsImage}
use Rattle.cl_deadlock.specs.Why.{IsVerdictOf}
use Rattle.cl_explore.specs.Companies.{IsCompanyAt, IsJudged, NotesStuck}
use Rattle.cl_order_laws.specs.Laws.{AreAlike}
use Rattle.cl_contests.proofs.Below.{source_law}
use Rattle.cl_contest_laws.proofs.Contest.{contest_law}
use Rattle.cl_contest_laws.proofs.Starts.{good_law, starts_well_law}
use Rattle.cl_contests.specs.Going.{IsFirstHart, TellsStart}
use Rattle.cl_contests.specs.Kept.{search_of, wild_of}
use Rattle.cl_contests.specs.Below.{WaitsWithin}
use Rattle.cl_contests.specs.declared.patterns.AskedBy.{AskedBy}
use Rattle.cl_contest_laws.specs.Below.{IsReachable}
use Rattle.cl_rests.specs.Needing.{IsNoNeed}
use Rattle.cl_rests.specs.Sets.{AreResting}
use Rattle.cl_rests.specs.Telling.{HaveOneHart, IsNeedVerdict}
use Rattle.cl_explore.specs.How.{HasRoom, How, IsFitFor, MayBegin, at_once, by_contest, plainly, waits_in}
use Rattle.cl_explore.specs.Covering.{AreLeads, AreNodes, HasRoomAt, IsClosedAt, IsClosedFrom, Reaches}
use Rattle.cl_explore.specs.Ends.{AreAlikeEnds, AreAllEnds, AreRestingAt, AreTurnsTo, BeginsAt, BeginsWell, Explored, ExploredBehind, ExploredFrom, ExploresFrom, Findings, Notes}
use Rattle.cl_explore.specs.Orders.{IsLedBy, named}
use Rattle.cl_explore.specs.Searching.{AreFound, Arrives, FindsMore, GoesOn, IsVisited, KeepsOf}
use Rattle.cl_explore.specs.declared.companies.Company.{Company}
use Rattle.cl_explore.specs.declared.kept.KeptNode.{KeptNode}
use Rattle.cl_explore.specs.declared.moving.Visit.{Visit}
use Rattle.cl_explore.specs.declared.search.Search.{Search}
use Rattle.cl_explore.proofs.Lists.{at_inside, at_last, stays_at, was_or_new}
use Rattle.cl_explore.proofs.Keeping.{led_at, no_way, node_found, way_on}
use Rattle.cl_explore.proofs.OneEach.{may_wait_in, one_at_start, one_of_other}
use Rattle.cl_explore.proofs.Covers.{closed_more, closed_over, reaches_in, reaches_more, reaches_on}

-- ---- the first node

no_nodes : (image : ImageParts) (order : List ℕ) → AreNodes image order [] []
no_nodes image order = record { many = refl; each = λ i k at. absurd (cc) }

pub begins : (how : How) (order : List ℕ) (none : List KeptNode) (new : Search) (number : ℕ) (start there : Standing)
    → none ≡ [] → new.leads.items ≡ [] → GoesOn how order start there
    → Arrives how order none 0 there new.nodes.items number → BeginsAt how order start new
begins how order none new number start there empty still ahead arrives = λ image here stands way.
    let first = first_node image in
    let plans = by_order order in
    let far = ahead image first here stands way (image, [], refl) in
    let kept = arrives image [] first far.0 (subst (λ ks. AreNodes image order ks []) (sym empty) (no_nodes image order)) far.1
    refl far.2 in
    let alike = kept.holds in
    record {
      nodes = kept.more;
      are = kept.are;
      still = still;
      start_is = reaches_in how order kept.more number alike.0 here alike.1 (far.3 alike.0 alike.2);
    }

-- ---- so many nodes were visited

pub record SoFar (how : How) (image : ImageParts) (order : List ℕ) (start : Node) (search : Search)
    (ends : List ℕ) (companies : List Company) (resting : List ℕ) (done : ℕ) : Type 0 where
  pub nodes : List Node
  pub found : AreFound how image order search nodes
  pub start_is : Reaches how order nodes start
  pub closed : (i r : ℕ) (node : Node) → i < done → slice_get nodes i ≡ Some node
      → IsClosedFrom how order search.leads.items i nodes node r
  pub few : (i : ℕ) (node : Node) → i < done → slice_get nodes i ≡ Some node → HasRoom how (hub_of node.cluster.journal)
  pub fit : (i : ℕ) (node : Node) → i < done → slice_get nodes i ≡ Some node → IsFitFor how node.cluster
  pub told : (k i : ℕ) → slice_get ends k ≡ Some i
      → (node : Node) × (slice_get nodes i ≡ Some node) × IsEnd (by_order order) node.cluster
  pub all : (i : ℕ) (node : Node) → i < done → slice_get nodes i ≡ Some node → IsEnd (by_order order) node.cluster
      → (k : ℕ) × (slice_get ends k ≡ Some i)
  pub stuck : IsImage image → (k : ℕ) (company : Company) → slice_get companies k ≡ Some company
      → IsCompanyAt nodes company
  pub visited : (k : ℕ) (company : Company) → slice_get companies k ≡ Some company → company.node < done
  pub judged : IsImage image → (i : ℕ) (node : Node) → i < done → slice_get nodes i ≡ Some node
      → IsJudged companies i node.cluster
  pub unneeded : IsImage image → waits_in how ≡ true → (i : ℕ) (node : Node) → i < done → slice_get nodes i ≡ Some node
      → HaveOneHart node.cluster → IsNoNeed node.cluster
  pub counted : length resting ≡ done
  pub rested : IsImage image → waits_in how ≡ true → (i : ℕ) (node : Node) → i < done → slice_get nodes i ≡ Some node
      → AreRestingAt resting i node.cluster

pub none_so_far : (how : How) (image : ImageParts) (order : List ℕ) (start : Node) (search : Search)
    (ends : List ℕ) (companies : List Company) (resting : List ℕ) → BeginsWell how image order start search → ends ≡ []
    → companies ≡ [] → resting ≡ [] → SoFar how image order start search ends companies resting 0
none_so_far how image order start search ends companies resting begun none nobody still = record {
  nodes = begun.nodes;
  found = record {
    are = begun.are;
    leads = λ k lead at.
        let no : slice_get [] k ≡ Some lead = subst (λ xs. slice_get xs k ≡ Some lead) begun.still at in absurd (cc);
  };
  start_is = begun.start_is;
  closed = λ i r node low at. absurd (omega (arith, low));
  few = λ i node low at. absurd (omega (arith, low));
  fit = λ i node low at. absurd (omega (arith, low));
  told = λ k i at.
      let no : slice_get [] k ≡ Some i = subst (λ xs. slice_get xs k ≡ Some i) none at in absurd (cc);
  all = λ i node low at end. absurd (omega (arith, low));
  stuck = λ right k company at.
      let no : slice_get [] k ≡ Some company = subst (λ xs. slice_get xs k ≡ Some company) nobody at in absurd (cc);
  visited = λ k company at.
      let no : slice_get [] k ≡ Some company = subst (λ xs. slice_get xs k ≡ Some company) nobody at in absurd (cc);
  judged = λ right i node low at. absurd (omega (arith, low));
  unneeded = λ right waits i node low at one. absurd (omega (arith, low));
  counted = ap length still;
  rested = λ right waits i node low at. absurd (omega (arith, low));
}

-- ---- companies that are noted

noted_stays : (old new : List Company) (stuck : Option (List ℕ)) (node : ℕ) → NotesStuck old stuck node new
    → (k : ℕ) (company : Company) → slice_get old k ≡ Some company → slice_get new k ≡ Some company
noted_stays old new None node notes k company at = subst (λ cs. slice_get cs k ≡ Some company) (sym notes) at
noted_stays old new (Some ranks) node notes k company at =
    subst (λ cs. slice_get cs k ≡ Some company) (sym notes.3) (stays_at old notes.0 k company at)

noted_before : (old new : List Company) (stuck : Option (List ℕ)) (node : ℕ) → NotesStuck old stuck node new
    → (k : ℕ) (company : Company) → slice_get new k ≡ Some company
    → (slice_get old k ≡ Some company) ⊎ ((company.node ≡ node) × (stuck ≡ Some company.ranks.items))
noted_before old new None node notes k company at = inl (subst (λ cs. slice_get cs k ≡ Some company) notes at)
noted_before old new (Some ranks) node notes k company at =
    elim (was_or_new old notes.0 k company (subst (λ cs. slice_get cs k ≡ Some company) notes.3 at)) [
      | inl was ↦ inl was
      | inr last ↦
          let is : notes.0 ≡ company = same_Some notes.0 company last.1 in
          inr (
            ap (λ (c : Company). c.node) (sym is) ∙ notes.1,
            ap (λ rs. Some rs) (sym notes.2 ∙ ap (λ (c : Company). c.ranks.items) is),
          )
    ]

-- the verdict on the node is noted, if it is one
noted_now : (old new : List Company) (stuck : Option (List ℕ)) (node : ℕ) (cluster : Cluster)
    → NotesStuck old stuck node new → IsVerdictOf cluster stuck → IsJudged new node cluster
noted_now old new None node cluster notes verdict = inl verdict
noted_now old new (Some ranks) node cluster notes verdict = inr (
  length old,
  notes.0,
  subst (λ cs. slice_get cs (length old) ≡ Some notes.0) (sym notes.3) (at_last old notes.0),
  notes.1,
  subst (λ rs. IsVerdictOf cluster (Some rs)) (sym notes.2) verdict,
)

judged_still : (old new : List Company) (stuck : Option (List ℕ)) (node : ℕ) → NotesStuck old stuck node new → (i : ℕ)
    (cluster : Cluster) → IsJudged old i cluster → IsJudged new i cluster
judged_still old new stuck node notes i cluster (inl none) = inl none
judged_still old new stuck node notes i cluster (inr noted) =
    inr (noted.0, noted.1, noted_stays old new stuck node notes noted.0 noted.1 noted.2, noted.3, noted.4)

-- ---- ranks that need buffers

no_need : {A : Type 0} (items : A → List ℕ) (cluster : Cluster) (need : Option A) → is_some need ≡ false
    → IsNeedVerdict cluster (option_map items need) → IsNoNeed cluster
no_need items cluster None none verdict = verdict
no_need items cluster (Some ranks) none verdict = absurd (cc)

-- ---- ranks that rest

resting_still : (resting : List ℕ) (set i : ℕ) (cluster : Cluster) → AreRestingAt resting i cluster
    → AreRestingAt (resting ++ set ∷ []) i cluster
resting_still resting set i cluster are = (are.0, stays_at resting set i are.0 are.1, are.2)

resting_now : (resting : List ℕ) (set i : ℕ) (cluster : Cluster) → length resting ≡ i → AreResting set cluster
    → AreRestingAt (resting ++ set ∷ []) i cluster
resting_now resting set i cluster is are =
    (set, subst (λ j. slice_get (resting ++ set ∷ []) j ≡ Some set) is (at_last resting set), are)

-- ---- one node more

-- the ends are told so far, and of the node itself if it is one
record EndsNoted (ends now : List ℕ) (done : ℕ) (end : Bool) : Type 0 where
  was : (k i : ℕ) → slice_get now k ≡ Some i → (slice_get ends k ≡ Some i) ⊎ ((i ≡ done) × (end ≡ true))
  stays : (k i : ℕ) → slice_get ends k ≡ Some i → slice_get now k ≡ Some i
  here : end ≡ true → (k : ℕ) × (slice_get now k ≡ Some done)

ends_noted : (ends now : List ℕ) (done : ℕ) (end : Bool) → Notes ends end done now → EndsNoted ends now done end
ends_noted ends now done true notes = subst (λ xs. EndsNoted ends xs done true) (sym notes) (record {
  was = λ k i at. elim (was_or_new ends done k i at) [
    | inl before ↦ inl before
    | inr last ↦ inr (sym (same_Some done i last.1), refl)
  ];
  stays = λ k i at. stays_at ends done k i at;
  here = λ its. (length ends, at_last ends done);
})
ends_noted ends now done false notes = subst (λ xs. EndsNoted ends xs done false) (sym notes) (record {
  was = λ k i at. inl at;
  stays = λ k i at. at;
  here = λ is. absurd (cc);
})

module _ (how : How) (image : ImageParts) (order : List ℕ) (start : Node) (old new : Search) (ends now : List ℕ)
    (companies after : List Company) (resting rest : List ℕ) (done : ℕ)
    (explored : SoFar how image order start old ends companies resting done)
    (inside : done < length old.nodes.items) (room : HasRoomAt how old.nodes.items done) (visit : Visit)
    (visits : KeepsOf how order old done new (IsVisited how order new.leads.items done visit)) where
  abbrev nodes : List Node
  nodes = explored.nodes

  node : (node : Node) × (slice_get nodes done ≡ Some node)
  node = at_inside nodes done (subst (λ c. done < c) (sym ((explored.found).are).many) inside)

  node_room : HasRoom how (hub_of (node.0).cluster.journal)
  node_room =
      let v = led_at image order old.nodes.items nodes (explored.found).are done node.0 node.1 in
      subst (HasRoom how) (v.2).whole (room v.0 v.1)

  far : FindsMore how image order old nodes new (λ more. IsVisited how order new.leads.items done visit image more node.0)
  far = visits image nodes node.0 explored.found node.1

  there : slice_get far.more done ≡ Some node.0
  there = far.grows done node.0 node.1

  -- a node that was visited before, or the last one
  each : (P : ℕ → Node → Type 0) → P done node.0 → ((i : ℕ) (x : Node) → i < done → slice_get nodes i ≡ Some x → P i x)
      → (i : ℕ) (x : Node) → i < done + 1 → slice_get far.more i ≡ Some x → P i x
  each P last before i x low at = elim (cases_eq done i) [
    | inl same ↦
        let is : node.0 ≡ x = same_Some node.0 x (sym there ∙ subst (λ j. slice_get far.more j ≡ Some x) (sym same) at) in
        subst (λ j. P j x) same (subst (P done) is last)
    | inr other ↦
        let y = at_inside nodes i (omega (arith, low, other, inside, ((explored.found).are).many)) in
        subst (P i) (same_Some y.0 x (sym (far.grows i y.0 y.1) ∙ at)) (before i y.0 (omega (arith, low, other)) y.1)
  ]

  -- its number is still one of those that are kept
  pub still_inside : done < length new.nodes.items
  still_inside =
      let low = slice_get_within far.more done node.0 there in omega (arith, low, ((far.found).are).many)

  pub more : Notes ends visit.end done now
      → NotesStuck companies (option_map (λ ranks. ranks.items) visit.stuck) done after
      → rest ≡ resting ++ visit.resting ∷ [] → is_some visit.need ≡ false
      → SoFar how image order start new now after rest (done + 1)
  more ended stuck behind none =
      let noted = ends_noted ends now done visit.end ended in
      record {
        nodes = far.more;
        found = far.found;
        start_is = reaches_more how order nodes far.more start far.grows explored.start_is;
        closed = λ i r x low at.
            each (λ j y. IsClosedFrom how order new.leads.items j far.more y r) ((far.holds).closed r)
            (λ j y less was. closed_more how order old.leads.items new.leads.items j nodes far.more y r far.grows far.leads
            (explored.closed j r y less was)) i x low at;
        few = each (λ j y. HasRoom how (hub_of y.cluster.journal)) node_room explored.few;
        fit = each (λ j y. IsFitFor how y.cluster) (far.holds).fit explored.fit;
        told = λ k i at. elim (noted.was k i at) [
          | inl before ↦ let v = explored.told k i before in (v.0, far.grows i v.0 v.1, v.2)
          | inr last ↦ (
            node.0,
            subst (λ j. slice_get far.more j ≡ Some node.0) (sym last.0) there,
            ((far.holds).end).0 last.1,
          )
        ];
        all = each (λ j y. IsEnd (by_order order) y.cluster → (k : ℕ) × (slice_get now k ≡ Some j))
            (λ is. noted.here (((far.holds).end).1 is))
            (λ j y less was is. let k = explored.all j y less was is in (k.0, noted.stays k.0 j k.1));
        stuck = λ right k company at.
            elim (noted_before companies after (option_map (λ ranks. ranks.items) visit.stuck) done stuck k company at) [
              | inl before ↦ let v = explored.stuck right k company before in (v.0, far.grows company.node v.0 v.1, v.2)
              | inr last ↦ (
                node.0,
                subst (λ j. slice_get far.more j ≡ Some node.0) (sym last.0) there,
                subst (IsVerdictOf (node.0).cluster) last.1 ((far.holds).stuck right),
              )
            ];
        visited = λ k company at.
            elim (noted_before companies after (option_map (λ ranks. ranks.items) visit.stuck) done stuck k company at) [
              | inl before ↦ let low = explored.visited k company before in omega (arith, low)
              | inr last ↦ let here = last.0 in omega (arith, here)
            ];
        judged = λ right.
            each (λ j y. IsJudged after j y.cluster)
            (noted_now companies after (option_map (λ ranks. ranks.items) visit.stuck) done (node.0).cluster stuck
            ((far.holds).stuck right))
            (λ j y less was. judged_still companies after (option_map (λ ranks. ranks.items) visit.stuck) done stuck j
            y.cluster (explored.judged right j y less was));
        unneeded = λ right waits.
            each (λ j y. HaveOneHart y.cluster → IsNoNeed y.cluster)
            (λ one. no_need (λ ranks. ranks.items) (node.0).cluster visit.need none ((far.holds).need right one waits))
            (explored.unneeded right waits);
        counted = ap length behind ∙ (length-append resting (visit.resting ∷ []) ∙ ap (λ n. n + 1) explored.counted);
        rested = λ right waits.
            each (λ j y. AreRestingAt rest j y.cluster)
            (subst (λ rs. AreRestingAt rs done (node.0).cluster) (sym behind)
            (resting_now resting visit.resting done (node.0).cluster explored.counted ((far.holds).resting right waits)))
            (λ j y less was. subst (λ rs. AreRestingAt rs j y.cluster) (sym behind)
            (resting_still resting visit.resting j y.cluster (explored.rested right waits j y less was)));
      }

-- ---- in the end

-- one of the nodes is an end that is alike the cluster
abbrev pub HasEnd : List ℕ → List Node → Cluster → Type 0
HasEnd order nodes end =
    (i : ℕ) × (node : Node) × (slice_get nodes i ≡ Some node) × IsEnd (by_order order) node.cluster
    × AreAlikeEnds end node.cluster

-- likeness that keeps the order of all messages is likeness
pub alike_ends : (a b : Cluster) → AreAlike a b → AreAlikeEnds a b
alike_ends a b alike = ((λ rank comm. false), source_law.same (λ rank comm. false) a b alike)

-- where each node is closed, with few posts where calls for what is there are made at once, the nodes have each end
pub ends_of : (how : How) (order : List ℕ) (nodes : List Node) (start : Node) → Reaches how order nodes start
    → MayBegin how order start → HasRoom how (hub_of start.cluster.journal)
    → ((i r : ℕ) (node : Node) → slice_get nodes i ≡ Some node → IsClosedAt how order nodes node r)
    → ((i : ℕ) (node : Node) → slice_get nodes i ≡ Some node → HasRoom how (hub_of node.cluster.journal))
    → ((i : ℕ) (node : Node) → slice_get nodes i ≡ Some node → IsFitFor how node.cluster)
    → (steps : List Step) (end : Cluster) → IsRun start.cluster steps end
    → FollowPlans (by_order order) start.had steps → IsEnd (by_order order) end → HasEnd order nodes end
ends_of (by_contest contest) order nodes start reach begins room closed few fit = λ steps end run follow ended.
    let v = contest_law.ends contest (by_order order) nodes start begins reach
    (record { closed = λ i r node rank at here. closed i r node at rank here; fit = fit }) steps end run follow ended in
    (v.0, v.1, v.2, v.3, (contest.wild, v.4))
ends_of at_once order nodes start reach begins room closed few fit = λ steps end run follow ended.
    let v = at_once_law.ends (by_order order) most_posts nodes start reach (omega (arith, room))
    (record { each = λ i r node rank at here. closed i r node at rank here; few = few }) steps end run follow ended in
    (v.0, v.1, v.2, ends_law.ends (by_order order) end (v.1).cluster v.3 ended, alike_ends end (v.1).cluster v.3)
ends_of plainly order nodes start reach begins room closed few fit = λ steps end run follow ended.
    let v = every_end_law (by_order order) nodes start reach
    (record { each = λ i r node rank at here. closed i r node at rank here }) steps end run follow ended in
    (v.0, v.1, v.2, ends_law.ends (by_order order) end (v.1).cluster v.3 ended, alike_ends end (v.1).cluster v.3)

-- as many posts were made where a node covers
room_covered : (how : How) (order : List ℕ) (node here : Node) → IsCovered (by_order order) (node ∷ []) here
    → HasRoom how (hub_of node.cluster.journal) → HasRoom how (hub_of here.cluster.journal)
room_covered at_once order node here cov room =
    (let same = covers_posts (by_order order) node here cov in omega (arith, same, room))
room_covered plainly order node here cov room = tt
room_covered (by_contest contest) order node here cov room = tt

-- and so of runs from what the first node covers
pub covered_ends : (how : How) (order : List ℕ) (nodes : List Node) (start here : Node)
    → IsCovered (by_order order) (start ∷ []) here → Reaches how order nodes start
    → MayBegin how order start → HasRoom how (hub_of start.cluster.journal)
    → ((i r : ℕ) (node : Node) → slice_get nodes i ≡ Some node → IsClosedAt how order nodes node r)
    → ((i : ℕ) (node : Node) → slice_get nodes i ≡ Some node → HasRoom how (hub_of node.cluster.journal))
    → ((i : ℕ) (node : Node) → slice_get nodes i ≡ Some node → IsFitFor how node.cluster)
    → (steps : List Step) (end : Cluster) → IsRun here.cluster steps end
    → FollowPlans (by_order order) here.had steps → IsEnd (by_order order) end → HasEnd order nodes end
covered_ends (by_contest contest) order nodes start here cov reach begins room closed few fit = λ steps end run follow ended.
    let plans = by_order order in
    let walk = walk_of plans steps here.cluster end here.had run follow in
    let f = follow_walk plans (map (λ (e : Step). e.rank) steps) start here (node_of end (had_after here.had steps)) cov walk ended in
    let there = ends_law.ends plans end (f.last).cluster f.alike ended in
    let v = contest_law.walks contest plans nodes start begins reach
    (record { closed = λ i r node rank at here. closed i r node at rank here; fit = fit }) f.ranks f.last f.walk there in (
      v.0,
      v.1,
      v.2,
      v.3,
      (
        contest.wild,
        source_law.on contest.wild end (f.last).cluster (v.1).cluster (source_law.same contest.wild end (f.last).cluster f.alike) v.4,
      ),
    )
covered_ends at_once order nodes start here cov reach begins room closed few fit =
    ends_of at_once order nodes here (reaches_on at_once order nodes here start tt cov reach) tt
    (room_covered at_once order start here cov room) closed few fit
covered_ends plainly order nodes start here cov reach begins room closed few fit =
    ends_of plainly order nodes here (reaches_on plainly order nodes here start tt cov reach) tt
    (room_covered plainly order start here cov room) closed few fit

module _ (how : How) (image : ImageParts) (order : List ℕ) (start : Node) (search : Search) (found : Findings)
    (done : ℕ) (explored : SoFar how image order start search found.ends found.companies found.resting done)
    (kept : found.kept ≡ search.nodes.items) (leads : found.leads ≡ search.leads.items)
    (may_wait : found.may_wait ≡ waits_in how) (unasked : found.only_waits ≡ false) (came : IsFound image order start)
    (room : HasRoom how (hub_of start.cluster.journal)) (begins_well : MayBegin how order start) where
  abbrev them : List Node
  them = explored.nodes

  closed_at : (i r : ℕ) (node : Node) → i < done → slice_get them i ≡ Some node → IsClosedAt how order them node r
  closed_at i r node low at =
      closed_over how order search.leads.items i them node r (explored.closed i r node low at)

  all_ends : length search.nodes.items ≤ done → AreAllEnds order start them found.ends
  all_ends all = λ steps end run follow ended.
      let low : (i : ℕ) (node : Node) → slice_get them i ≡ Some node → i < done =
      λ i node at.
      let inside = slice_get_within them i node at in omega (arith, inside, all, ((explored.found).are).many) in
      let one = ends_of how order them start explored.start_is begins_well room
      (λ i r node at. closed_at i r node (low i node at) at) (λ i node at. explored.few i node (low i node at) at)
      (λ i node at. explored.fit i node (low i node at) at) steps end run follow ended in
      let k = explored.all one.0 one.1 (low one.0 one.1 one.2) one.2 one.3 in
      (k.0, one.0, one.1, k.1, one.2, one.4)

  pub tells_all : length search.nodes.items ≡ done + found.left
      → (e : ExploredFrom image order start found) × (e.how ≡ how)
  tells_all many = (
    record {
      nodes = them;
      are = subst (λ ks. AreNodes image order ks them) (sym kept) (explored.found).are;
      how = how;
      start_is = explored.start_is;
      begins = begins_well;
      room = room;
      leads = subst (AreLeads how order them) (sym leads) (explored.found).leads;
      follows = λ i r node visited.
          subst (λ ls. IsClosedFrom how order ls i them node r) (sym leads)
          (explored.closed i r node (low i visited.0) visited.1);
      closed = λ i r node visited. closed_at i r node (low i visited.0) visited.1;
      few = λ i node visited. explored.few i node (low i visited.0) visited.1;
      fit = λ i node visited. explored.fit i node (low i visited.0) visited.1;
      sound = explored.told;
      told = λ i node visited ended. explored.all i node (low i visited.0) visited.1 ended;
      stuck = explored.stuck;
      visited = λ k company at.
          let low = explored.visited k company at in omega (arith, low, many, ((explored.found).are).many);
      judged = λ right i node visited. explored.judged right i node (low i visited.0) visited.1;
      all = λ is. all_ends (omega (arith, is, many));
      waits = λ is. may_wait_in how (sym may_wait ∙ is);
      named = λ is. (let no : false ≡ true = sym unasked ∙ is in absurd (cc));
      unneeded = λ right is i node visited.
          explored.unneeded right (sym may_wait ∙ is) i node (low i visited.0) visited.1
          (one_of_other image order start node came
          (node_found image order search.nodes.items them (explored.found).are i node visited.1)
          (one_at_start how order start (sym may_wait ∙ is) begins_well));
      counted = ap (λ n. n + found.left) explored.counted ∙ (sym many ∙ ap length (sym kept));
      rested = λ right is i node visited.
          explored.rested right (sym may_wait ∙ is) i node (low i visited.0) visited.1;
    },
    refl,
  )
    where
      low : (i : ℕ) → i + found.left < length them → i < done
      low i inside = omega (arith, inside, many, ((explored.found).are).many)

-- ---- from whichever node the search begins at

-- so it is, and the moves of no more nodes were made than are there
abbrev pub SoFarFrom : How → List ℕ → Standing → Search → List ℕ → List Company → List ℕ → ℕ → Type 0
SoFarFrom how order standing search ends companies resting done =
    (image : ImageParts) (here : Node) → StandsAt image standing here
    → IsWay (by_order order) (first_node image) standing.steps.items here
    → SoFar how image order here search ends companies resting done × (done ≤ length search.nodes.items)

pub none_from : (how : How) (order : List ℕ) (standing : Standing) (search : Search) (ends : List ℕ)
    (companies : List Company) (resting : List ℕ) → BeginsAt how order standing search → ends ≡ [] → companies ≡ []
    → resting ≡ [] → SoFarFrom how order standing search ends companies resting 0
none_from how order standing search ends companies resting begun none nobody still = λ image here stands way. (
  none_so_far how image order here search ends companies resting (begun image here stands way) none nobody still,
  omega (arith),
)

pub more_from : (how : How) (order : List ℕ) (standing : Standing) (old new : Search) (ends now : List ℕ)
    (companies after : List Company) (resting rest : List ℕ) (done : ℕ)
    → SoFarFrom how order standing old ends companies resting done
    → done < length old.nodes.items → HasRoomAt how old.nodes.items done → (visit : Visit)
    → KeepsOf how order old done new (IsVisited how order new.leads.items done visit) → Notes ends visit.end done now
    → NotesStuck companies (option_map (λ ranks. ranks.items) visit.stuck) done after
    → rest ≡ resting ++ visit.resting ∷ [] → is_some visit.need ≡ false
    → SoFarFrom how order standing new now after rest (done + 1)
more_from how order standing old new ends now companies after resting rest done so low room visit visits notes stuck behind none =
    λ image here stands way.
    let s = so image here stands way in
    let still = still_inside how image order here old new ends now companies after resting rest done s.0 low room visit
    visits in (
      more how image order here old new ends now companies after resting rest done s.0 low room visit visits notes stuck
          behind none,
      omega (arith, still),
    )

pub tells_from : (how : How) (order : List ℕ) (standing : Standing) (search : Search) (found : Findings)
    (done : ℕ) → HasRoom how standing.whole
    → SoFarFrom how order standing search found.ends found.companies found.resting done → found.kept ≡ search.nodes.items
    → found.leads ≡ search.leads.items → found.may_wait ≡ waits_in how → found.only_waits ≡ false
    → found.left ≡ length search.nodes.items - done
    → ExploresFrom how order standing found
tells_from how order standing search found done room so_far kept leads may_wait unasked many = λ image here stands way begins_well.
    let s = so_far image here stands way in
    tells_all how image order here search found done s.0 kept leads may_wait unasked
    (standing.steps.items, way) (subst (HasRoom how) stands.whole room) begins_well (omega (arith, many, s.1))

-- from the loaded cluster
pub explored_start : (how : How) (image : ImageParts) (order : List ℕ) (standing : Standing) (found : Findings)
    → IsStart image standing → MayBegin how order (first_node image) → ExploresFrom how order standing found
    → (e : Explored image order found) × (e.how ≡ how)
explored_start how image order standing found start begins_well explores =
    explores image (first_node image) start.stands
    (no_way (by_order order) (first_node image) standing.steps.items start.steps) begins_well

-- from where turns lead
pub explored_behind : (how : How) (image : ImageParts) (order : List ℕ) (turns : List Turn) (standing : Standing)
    (found : Findings) (led : IsLedBy image order turns standing) → MayBegin how order led.here
    → ExploresFrom how order standing found
    → ExploredBehind image order turns found
explored_behind how image order turns standing found led begins_well explores = record {
  steps = standing.steps.items;
  start = led.here;
  ordered = led.ordered;
  explored = (explores image led.here led.stands (led.ordered).way begins_well).0;
}

-- no turns lead to the loaded cluster
no_turns : (steps : List Step) → map turn_of steps ≡ map named [] → steps ≡ []
no_turns [] e = refl
no_turns (step ∷ steps) e = absurd (cc)

pub same_node : (a b : Node) → a.cluster ≡ b.cluster → a.had ≡ b.had → a ≡ b
same_node a b cluster had = λ i. record { cluster = cluster i; had = had i }

pub explored_all : (image : ImageParts) (order : List ℕ) (found : Findings) → ExploredBehind image order [] found
    → Explored image order found
explored_all image order found behind =
    let start = behind.start in
    let none = no_turns behind.steps (behind.ordered).turns_are in
    let way = subst (λ steps. IsWay (by_order order) (first_node image) steps start) none (behind.ordered).way in
    subst (λ n. ExploredFrom image order n found) (same_node start (first_node image) way.run way.had) behind.explored

-- where ranks have one hart each a search may begin wherever turns lead, by patterns that have the receives that wait there
pub may_begin : (may_wait : Bool) (kept : List AskedBy) (image : ImageParts) (order : List ℕ) (turns : List Turn)
    (standing : Standing) (led : IsLedBy image order turns standing) → IsFirstHart order → image.harts ≡ 1 → WaitsWithin (wild_of kept) standing.whole
    → TellsStart standing true → MayBegin (by_contest (search_of may_wait kept)) order led.here
may_begin may_wait kept image order turns standing led first harts waits tells =
    let contest = search_of may_wait kept in
    let here = led.here in
    let reachable : IsReachable image here.cluster = (standing.steps.items, ((led.ordered).way).run) in
    starts_well_law contest (by_order order) image here.cluster (λ r. refl) (λ r n. first n) harts reachable
    (good_law contest image here.cluster reachable (subst (WaitsWithin (wild_of kept)) (led.stands).whole waits)
    (tells refl image here led.stands))

pub if_some_on : {A : Type 0} {P Q : A → Type 0} (o : Option A) → ((a : A) → P a → Q a) → IfSome o P → IfSome o Q
if_some_on None on is = tt
if_some_on (Some a) on is = on a is

-- ---- what led to a node

-- turns, the last one first, lead from the node of one number to that of another
abbrev pub LeadsBack : List KeptNode → ℕ → ℕ → List Step → Type 0
LeadsBack kept node at back =
    (image : ImageParts) (order : List ℕ) (nodes : List Node) (here : Node) → AreNodes image order kept nodes
    → slice_get nodes node ≡ Some here
    → (there : Node) × (slice_get nodes at ≡ Some there) × IsWay (by_order order) there (reverse back) here

module _ (kept : List KeptNode) (node : ℕ) where
  pub none_back : (back : List Step) → back ≡ [] → LeadsBack kept node node back
  none_back back none = λ image order nodes here are at.
      (here, at, no_way (by_order order) here (reverse back) (ap reverse none))

  -- with the turns that led to that node
  longer : (image : ImageParts) (order : List ℕ) (nodes : List Node) (here : Node) (at : ℕ) (k : KeptNode)
      (back more : List Step) → slice_get kept at ≡ Some k → more ≡ back ++ reverse k.turns → LeadsBack kept node at back
      → AreNodes image order kept nodes → slice_get nodes node ≡ Some here
      → (before : Node) × IsBefore image nodes k.parent at before × IsWay (by_order order) before (reverse more) here
  longer image order nodes here at k back more there is leads are last =
      let v = leads image order nodes here are last in
      let w = led_at image order kept nodes are at v.0 v.1 in
      let same : w.0 ≡ k = same_Some w.0 k (sym w.1 ∙ there) in
      let led = subst (λ x. IsLed image order nodes at x v.0) same w.3 in
      let steps : k.turns ++ reverse back ≡ reverse more =
      ap (λ es. es ++ reverse back) (sym (reverse-reverse k.turns))
      ∙ (sym (reverse-append back (reverse k.turns)) ∙ ap reverse (sym is)) in (
        led.before,
        led.from,
        subst (λ es. IsWay (by_order order) led.before es here) steps
            (way_on (by_order order) led.before v.0 here k.turns (reverse back) led.way v.2),
      )

  pub one_back : (at : ℕ) (k : KeptNode) (back more : List Step) → slice_get kept at ≡ Some k
      → more ≡ back ++ reverse k.turns → (at ≡ 0 → ⊥) → LeadsBack kept node at back → LeadsBack kept node k.parent more
  one_back zero k back more there is some leads = absurd (some refl)
  one_back (suc at) k back more there is some leads = λ image order nodes here are last.
      let v = longer image order nodes here (suc at) k back more there is leads are last in
      (v.0, (v.1).1, v.2)

  -- of each node but the first the parent is an earlier one
  pub is_earlier : (at : ℕ) (k : KeptNode) (back : List Step) → slice_get kept at ≡ Some k → (at ≡ 0 → ⊥)
      → LeadsBack kept node at back → (image : ImageParts) (order : List ℕ) (nodes : List Node) (here : Node)
      → AreNodes image order kept nodes → slice_get nodes node ≡ Some here → k.parent < at
  is_earlier zero k back there some leads image order nodes here are last = absurd (some refl)
  is_earlier (suc at) k back there some leads image order nodes here are last =
      let v = longer image order nodes here (suc at) k back (back ++ reverse k.turns) there refl leads are last in (v.1).0

  pub all_back : (at : ℕ) (k : KeptNode) (back more : List Step) → slice_get kept at ≡ Some k
      → more ≡ back ++ reverse k.turns → at ≡ 0 → LeadsBack kept node at back
      → (image : ImageParts) (order : List ℕ) (nodes : List Node) (here : Node) → AreNodes image order kept nodes
      → slice_get nodes node ≡ Some here → IsWay (by_order order) (first_node image) (reverse more) here
  all_back zero k back more there is none leads image order nodes here are last =
      let v = longer image order nodes here zero k back more there is leads are last in
      subst (λ x. IsWay (by_order order) x (reverse more) here) v.1 v.2
  all_back (suc at) k back more there is none leads image order nodes here are last = absurd (cc)

-- the steps that were turned lead there
pub turned_way : {E : Type 0} {V : Type 0} (image : ImageParts) (order : List ℕ) (here : Node) (r : Result V E)
    (items : V → List Step) (back : List Step) → IfOk r (λ steps. items steps ≡ reverse back)
    → IsWay (by_order order) (first_node image) (reverse back) here
    → IfOk r (λ steps. IsWay (by_order order) (first_node image) (items steps) here)
turned_way image order here (Ok steps) items back is way =
    subst (λ es. IsWay (by_order order) (first_node image) es here) (sym is) way
turned_way image order here (Err e) items back is way = tt

-- ---- turns that lead to a node

pub turns_lead : {E : Type 0} {V : Type 0} (kept : List KeptNode) (number : ℕ) (steps : List Step) (r : Result V E)
    (items : V → List Turn)
    → ((image : ImageParts) (order : List ℕ) (nodes : List Node) (here : Node) → AreNodes image order kept nodes
    → slice_get nodes number ≡ Some here
    → IsWay (by_order order) (first_node image) steps here)
    → (lent : List Step) → lent ≡ steps → IfOk r (λ turns. map named (items turns) ≡ map turn_of lent)
    → IfOk r (λ turns. AreTurnsTo kept number (items turns))
turns_lead kept number steps (Ok turns) items leads lent same is = λ image order nodes here are at. (
  steps,
  record { way = leads image order nodes here are at; turns_are = sym (is ∙ ap (map turn_of) same) },
)
turns_lead kept number steps (Err e) items leads lent same is = tt

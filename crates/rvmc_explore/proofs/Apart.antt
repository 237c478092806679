-- A search that was split: what the starts tell together.
use Rattle.std.specs.Prelude.{ℕ, ◌+◌, ◌<◌, ◌≡◌, List, [], ◌∷◌, length, slice_get, Some}
use Rattle.std.proofs.Common.{refl, sym, ap, ◌∙◌, subst, arith, inl, inr}
use Rattle.std.proofs.lemmas.Bool.{cases_lt}
use Rattle.std.proofs.lemmas.Option.{slice_get_within}
use Rattle.rv_image_types.specs.declared.images.ImageParts.{ImageParts}
use Rattle.cl_machine.specs.Cluster.{Cluster, IsRun, loaded_cluster}
use Rattle.cl_machine.specs.declared.steps.Step.{Step}
use Rattle.cl_order_laws.specs.Alike.{hub_of}
use Rattle.cl_order_laws.specs.Closed.{FollowPlans, IsCovered, IsEnd, Node, Plans, Turns, had_after, none_had, one_more}
use Rattle.cl_order_laws.proofs.Covered.{covered_among, step_covered}
use Rattle.cl_order_laws.proofs.Deadlocks.{ends_law}
use Rattle.cl_order_laws.proofs.Ends.{end_alike}
use Rattle.cl_order_laws.proofs.Orders.{one_order_law}
use Rattle.cl_order_laws.proofs.Steps.{step_leads}
use Rattle.cl_moves.specs.Standing.{by_order, first_node, node_of}
use Rattle.cl_explore.specs.Covering.{IsClosedAt, Reaches}
use Rattle.cl_explore.specs.Ends.{AreAlikeEnds}
use Rattle.cl_explore.specs.How.{HasRoom, MayBegin, plainly}
use Rattle.cl_explore.specs.Orders.{IsOrderedWay}
use Rattle.cl_explore.proofs.Finds.{HasEnd, covered_ends, same_node}
use Rattle.cl_explore.proofs.Lists.{at_inside}
use Rattle.rvmc_starts.specs.declared.starts.Start.{Start}
use Rattle.rvmc_explore.specs.Outcomes.{IsEndBody}
use Rattle.rvmc_explore.specs.SplitLaw.{HasEndAs, IsToldWhole, SplitLaw}
use Rattle.rvmc_explore.specs.Splitting.{IsSplit, IsStartNumber}
use Rattle.rvmc_explore.proofs.Listed.{end_told}

-- ---- one order, one node

pub one_place : (image : ImageParts) (order other : List ℕ) (start : Start) (one two : List Step) (a b : Node)
    → other ≡ order → IsOrderedWay image order start.turns one a → IsOrderedWay image other start.turns two b → b ≡ a
one_place image order other start one two a b same first second =
    let again = subst (λ o. IsOrderedWay image o start.turns two b) same second in
    let its = one_order_law (by_order order) (first_node image) two one b.cluster a.cluster ((again.way).run)
    ((first.way).run) ((again.way).follow) ((first.way).follow) (again.turns_are ∙ sym first.turns_are) in
    same_node b a its.1
    (((again.way).had) ∙ (ap (λ es. had_after none_had es) its.0 ∙ sym ((first.way).had)))

-- ---- the law

module _ (image : ImageParts) (order : List ℕ) (states turns least : ℕ) (text : List ℕ)
    (split : IsSplit image order states turns least text)
    (told : (k : ℕ) (start : Start) → slice_get split.starts k ≡ Some start → IsToldWhole image start) where
  abbrev plans : Plans
  plans = by_order order

  abbrev nodes : List Node
  nodes = (split.explored).nodes

  -- the nodes of what was told
  abbrev nodes_of : (start : Start) → IsToldWhole image start → List Node
  nodes_of start its = ((((its.tells).listed).behind).explored).nodes

  harts_are : (k : ℕ) (start : Start) → slice_get split.starts k ≡ Some start → start.harts ≡ order
  harts_are k start at = ((split.are).each k start at).4

  -- what was told of a start begins where its turns lead
  begins_at : (k : ℕ) (start : Start) (at : slice_get split.starts k ≡ Some start) (steps : List Step) (node : Node)
      → IsOrderedWay image order start.turns steps node → (((((told k start at).tells).listed).behind).start) ≡ node
  begins_at k start at steps node way =
      let behind = (((told k start at).tells).listed).behind in
      one_place image order start.harts start steps behind.steps node behind.start (harts_are k start at) way behind.ordered

  -- where it has each end of the runs that begin there, and of those that begin where it covers
  ends_at : (k : ℕ) (start : Start) (at : slice_get split.starts k ≡ Some start) (steps : List Step) (node here : Node)
      → IsOrderedWay image order start.turns steps node → IsCovered plans (node ∷ []) here → (more : List Step)
      (end : Cluster) → IsRun here.cluster more end → FollowPlans plans here.had more → IsEnd plans end
      → HasEnd order (nodes_of start (told k start at)) end
  ends_at k start at steps node here way cov more end run follow is =
      let its = told k start at in
      let ns = nodes_of start its in
      let same = harts_are k start at in
      let listed = (its.tells).listed in
      let explored = (listed.behind).explored in
      let first : (listed.behind).start ≡ node = begins_at k start at steps node way in
      let visited : (i : ℕ) (n : Node) → slice_get ns i ≡ Some n → i + (listed.found).left < length ns =
      λ i n there. omega (arith, slice_get_within ns i n there, its.whole) in
      covered_ends explored.how order ns node here cov
      (subst (λ (n : Node). Reaches explored.how order ns n) first
      (subst (λ (o : List ℕ). Reaches explored.how o ns (listed.behind).start) same explored.start_is))
      (subst (λ (n : Node). MayBegin explored.how order n) first
      (subst (λ (o : List ℕ). MayBegin explored.how o (listed.behind).start) same explored.begins))
      (subst (HasRoom explored.how) (ap (λ (n : Node). hub_of n.cluster.journal) first) explored.room)
      (λ i r n there.
      subst (λ (o : List ℕ). IsClosedAt explored.how o ns n r) same
      (explored.closed i r n (visited i n there, there)))
      (λ i n there. explored.few i n (visited i n there, there))
      (λ i n there. explored.fit i n (visited i n there, there)) more end run follow is

  -- the moves of the nodes that aren't left were made, each where others lead
  closed_at : (i r : ℕ) (node : Node) → i + (split.found).left < length nodes → slice_get nodes i ≡ Some node
      → IsClosedAt plainly order nodes node r
  closed_at i r node low there =
      subst (λ how. IsClosedAt how order nodes node r) split.plain ((split.explored).closed i r node (low, there))

  module _ (end : Cluster) (is : IsEnd plans end) where
    -- an end among the nodes of a start is told
    told_end : (k : ℕ) (start : Start) (at : slice_get split.starts k ≡ Some start) (i : ℕ) (node : Node)
        → slice_get (nodes_of start (told k start at)) i ≡ Some node → IsEnd plans node.cluster → AreAlikeEnds end node.cluster
        → HasEndAs image start (told k start at) end
    told_end k start at i node there ended alike =
        let its = told k start at in
        let tells = its.tells in
        let listed = tells.listed in
        let mine = subst (λ (o : List ℕ). IsEnd (by_order o) node.cluster) (sym (harts_are k start at)) ended in
        let place = ((listed.behind).explored).told i node
        (omega (arith, slice_get_within (nodes_of start its) i node there, its.whole), there) mine in
        let body = end_told start.harts image listed.found tells.told listed.are place.0 i place.1 in
        let has = body.1 in
        let inside = slice_get_within tells.told has.0 has.1 has.2 in
        let text = at_inside (tells.part).ends has.0 (omega (arith, inside, (tells.ends).many)) in
        let of = (tells.ends).each has.0 has.1 text.0 has.2 text.1 in
        record {
          place = has.0;
          number = i;
          node = node;
          text = text.0;
          there = there;
          alike = alike;
          spelled = text.1;
          body = subst (IsEndBody start.harts image (listed.found).kept i) (sym (of.body ∙ has.3)) body.2;
        }

    abbrev Told : Type 0
    Told = (k : ℕ) × (start : Start) × (at : slice_get split.starts k ≡ Some start) × HasEndAs image start (told k start at) end

    -- by the start at a node that covers
    by_start : (i : ℕ) (node here : Node) → slice_get nodes i ≡ Some node
        → IsStartNumber (length nodes) (split.found).left (split.found).ends i → IsCovered plans (node ∷ []) here → (more : List Step)
        → IsRun here.cluster more end → FollowPlans plans here.had more → Told
    by_start i node here there number cov more run follow =
        let v = split.reach i node there number in
        let f = ends_at v.0 v.1 v.3 v.2 node here v.4 cov more end run follow is in
        (v.0, v.1, v.3, told_end v.0 v.1 v.3 f.0 f.1 f.2 f.3 f.4)

    told_from : (steps : List Step) (c : Cluster) (had : Turns) → IsCovered plans nodes (node_of c had)
        → IsRun c steps end → FollowPlans plans had steps → Told
    told_from [] c had cov run follow = elim (cases_lt (cov.index + (split.found).left) (length nodes)) [
      | inr past ↦ by_start cov.index cov.node (node_of c had) cov.there
          (inl (past, slice_get_within nodes cov.index cov.node cov.there))
          (covered_among plans nodes (cov.node ∷ []) (node_of c had) cov (0, refl)) [] run follow
      | inl low ↦
          let here = subst (IsEnd plans) run is in
          let alike = end_alike plans c here nodes had cov in
          let ended = ends_law.ends plans c (cov.node).cluster (cov.names, alike) here in
          by_start cov.index cov.node (node_of c had) cov.there
          (inr ((split.explored).told cov.index cov.node (low, cov.there) ended))
          (covered_among plans nodes (cov.node ∷ []) (node_of c had) cov (0, refl)) [] run follow
    ]
    told_from (e ∷ es) c had cov run follow = elim (cases_lt (cov.index + (split.found).left) (length nodes)) [
      | inr past ↦ by_start cov.index cov.node (node_of c had) cov.there
          (inl (past, slice_get_within nodes cov.index cov.node cov.there))
          (covered_among plans nodes (cov.node ∷ []) (node_of c had) cov (0, refl)) (e ∷ es) run follow
      | inl low ↦ told_from es run.0 (one_more had e.rank)
          (step_covered plans nodes c run.0 had e (step_leads c run.0 e run.1) follow.0 cov
          (closed_at cov.index e.rank cov.node low cov.there)) run.2 follow.1
    ]

pub split_law : SplitLaw
split_law image order states turns least text split told steps end run follow is =
    told_from image order states turns least text split told end is steps (loaded_cluster image) none_had
    (subst (λ how. Reaches how order (split.explored).nodes (first_node image)) split.plain (split.explored).start_is) run
    follow

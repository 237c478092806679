-- Moves of a node, one after another.
use Rattle.std.specs.Prelude.{ℕ, ◌+◌, ◌<◌, ◌≤◌, ◌≡◌, ◌⊎◌, List, [], ◌∷◌, ◌++◌, length, min, option_map, slice_get, Some, true}
use Rattle.std.proofs.Common.{refl, sym, ap, ◌∙◌, subst, arith, inl, inr}
use Rattle.std.proofs.lemmas.Bool.{cases_eq}
use Rattle.std.proofs.lemmas.List.{length-map}
use Rattle.std.proofs.lemmas.Option.{same_Some, slice_get_within}
use Rattle.rv_image_types.specs.Image.{IsImage}
use Rattle.rv_image_types.specs.declared.images.ImageParts.{ImageParts}
use Rattle.cl_deeds.specs.Orders.{in_slot}
use Rattle.cl_deadlock_laws.proofs.Reached.{comes_reached}
use Rattle.cl_machine.specs.Cluster.{Cluster, IsRun, loaded_cluster}
use Rattle.cl_machine.specs.declared.steps.Step.{Step}
use Rattle.cl_machine.proofs.Tables.{step_once}
use Rattle.cl_order_laws.specs.Closed.{IsDone, Node, one_more}
use Rattle.cl_order_laws.proofs.Steps.{below_law, step_leads}
use Rattle.cl_state.specs.declared.state.RankState.{RankState}
use Rattle.cl_state.specs.Rank.{Rank}
use Rattle.cl_state.specs.Room.{rank_of}
use Rattle.cl_moves.specs.Ends.{TellsEnd}
use Rattle.cl_moves.specs.Moves.{AreTurnsOf, HasAllTurns}
use Rattle.cl_moves.specs.Standing.{HasNoTurn, IsNextHart, StandsAt, Took, by_order, node_of}
use Rattle.cl_moves.specs.declared.standing.Standing.{Standing}
use Rattle.cl_explore.specs.Kept.{HaveStayed, IsLiveAt, IsLiveOf, KeptStandsAt}
use Rattle.cl_deadlock.specs.Why.{IsDeadlockVerdict}
use Rattle.cl_rests.specs.Telling.{TellsNeed, TellsResting}
use Rattle.cl_explore.specs.How.{How, IsFitFor, waits_in}
use Rattle.cl_explore.specs.Covering.{AreJoined, AreNodes, IsClosedFrom, IsReachedFrom, IsReachedTurn, LeadsGrow, Reaches, AreLeads}
use Rattle.cl_explore.specs.Searching.{AreClosedBelow, ArePlanned, Arrives, ClosesRank, Goes, GoesEach, GoesOn, IsVisited, KeepsAt, KeepsOf}
use Rattle.cl_explore.specs.declared.kept.KeptNode.{KeptNode}
use Rattle.cl_explore.specs.declared.leads.Lead.{Lead}
use Rattle.cl_explore.specs.declared.moving.Visit.{Visit}
use Rattle.cl_explore.specs.declared.search.Search.{Search}
use Rattle.cl_explore.proofs.Covers.{by_state, closed_more, grows_none, grows_on, leads_more, leads_on, turn_more}
use Rattle.cl_explore.proofs.Lists.{at_inside, at_last, stays_at, was_or_new}
use Rattle.cl_explore.proofs.Staying.{have_stayed}
use Rattle.cl_explore.proofs.Keeping.{before_at, found_reached, live_stands, no_way, node_found}

-- ---- one turn

leads_none : (leads : List Lead) → LeadsGrow leads leads
leads_none leads = λ k lead at. at

leads_then : (a b c : List Lead) → LeadsGrow a b → LeadsGrow b c → LeadsGrow a c
leads_then a b c first second = λ k lead at. second k lead (first k lead at)

-- no such node is kept
pub not_kept : (order : List ℕ) (kept : List KeptNode) (n : ℕ) → length kept ≤ n → (image : ImageParts)
    (nodes : List Node) (node : Node) → AreNodes image order kept nodes → slice_get nodes n ≡ Some node → ⊥
not_kept order kept n past image nodes node are there =
    let inside = slice_get_within nodes n node there in omega (arith, past, inside, are.many)

module _ (order : List ℕ) (old : List KeptNode) (n : ℕ) (k : KeptNode) (at : slice_get old n ≡ Some k) where
  -- what is kept is that node
  pub kept_at : (image : ImageParts) (nodes : List Node) (node : Node) → AreNodes image order old nodes
      → slice_get nodes n ≡ Some node → KeptStandsAt image k node
  kept_at image nodes node are there =
      let v = are.each n k at in
      let same : v.0 ≡ node = same_Some v.0 node (sym v.1 ∙ there) in subst (KeptStandsAt image k) same v.2

  -- a standing that was made of it is there
  pub live_at : (live : Standing) → IsLiveOf k live → (image : ImageParts) (nodes : List Node) (node : Node)
      → AreNodes image order old nodes → slice_get nodes n ≡ Some node → IsLiveAt image live node
  live_at live is image nodes node are there = record {
    stands = live_stands image k live node is (kept_at image nodes node are there);
    steps = is.steps;
  }

  -- the machine has no such turn there
  pub goes_nowhere : (how : How) (search : Search) → search.nodes.items ≡ old → (live after : Standing) (e : Step)
      → HasNoTurn live e → IsLiveOf k after → Goes how order search n live e search after
  goes_nowhere how search same live after e none is = λ image nodes node found there at planned. (
    record {
      more = nodes;
      grows = grows_none nodes;
      found = found;
      leads = leads_none search.leads.items;
      holds = λ new leads. absurd (none image node new at.stands (below_law node.cluster new e leads planned.1));
    },
    live_at after is image nodes node (subst (λ ks. AreNodes image order ks nodes) same found.are) there,
  )

-- it has: where it leads is kept, or alike a node, to which a move led, and then the standing is at the node again
pub goes_on : (how : How) (order : List ℕ) (old new : Search) (n number : ℕ) (lead : Lead) (e : Step)
    (live mid there after : Standing) → lead.rank ≡ e.rank → lead.from ≡ n → lead.to ≡ number → new.leads.items ≡ old.leads.items ++ lead ∷ []
    → Took live e mid → GoesOn how order mid there → Arrives how order old.nodes.items n there new.nodes.items number
    → ((k : KeptNode) → slice_get new.nodes.items n ≡ Some k → HaveStayed k there → IsLiveOf k after)
    → Goes how order old n live e new after
goes_on how order old new n number lead e live mid there after by from to longer took ahead arrives back =
    λ image nodes node found here at planned.
    let plans = by_order order in
    let led = took image plans node node at.stands (no_way plans node live.steps.items at.steps) planned.0 in
    let mid_node : Node = node_of led.0 (one_more node.had e.rank) in
    let far = ahead image node mid_node led.2 led.3
    (found_reached image order node (node_found image order old.nodes.items nodes found.are n node here)) in
    let kept = arrives image nodes node far.0 found.are far.1 (before_at image nodes n node here) far.2 in
    let still = kept.grows n node here in
    let inside = slice_get_within kept.more n node still in
    let k = at_inside new.nodes.items n (subst (λ c. n < c) (kept.are).many inside) in
    let stands = kept_at order new.nodes.items n k.0 k.1 image kept.more node kept.are still in
    let next : Node = (kept.holds).0 in
    let end : slice_get kept.more number ≡ Some next = (kept.holds).1 in
    let start = subst (λ i. slice_get kept.more i ≡ Some node) (sym from) still in
    let stop = subst (λ i. slice_get kept.more i ≡ Some next) (sym to) end in (
      record {
        more = kept.more;
        grows = kept.grows;
        found = record {
          are = kept.are;
          leads = subst (AreLeads how order kept.more) (sym longer)
              (leads_on how order kept.more old.leads.items lead node next
              (leads_more how order nodes kept.more old.leads.items kept.grows found.leads) start stop
              (subst (λ r. AreJoined how order r node next) (sym by) (record {
                steps = there.steps.items;
                there = far.0;
                way = far.2;
                alike = (kept.holds).2;
                first = e;
                new = led.0;
                own = refl;
                planned = planned.0;
                leads = step_leads node.cluster led.0 e led.1;
                reaches = far.3 next (kept.holds).2;
              })));
        };
        leads = λ i x was. subst (λ ls. slice_get ls i ≡ Some x) (sym longer) (stays_at old.leads.items lead i x was);
        holds = λ new_cluster leads.
            let same : led.0 ≡ new_cluster = step_once node.cluster e led.0 new_cluster led.1
            (below_law node.cluster new_cluster e leads planned.1) in
            record {
              number = number;
              next = next;
              led = (
                length old.leads.items,
                lead,
                subst (λ ls. slice_get ls (length old.leads.items) ≡ Some lead) (sym longer)
                    (at_last old.leads.items lead),
                by,
                from,
                to,
              );
              there = end;
              reaches = subst (λ c. Reaches how order (next ∷ []) (node_of c (one_more node.had e.rank))) same
                  (far.3 next (kept.holds).2);
            };
      },
      live_at order new.nodes.items n k.0 k.1 after
          (back k.0 k.1 (have_stayed image order k.0 there node far.0 stands far.1 far.2))
          image kept.more node kept.are still,
    )

-- no such node is kept then either
pub goes_past : (how : How) (order : List ℕ) (old new : Search) (n number : ℕ) (e : Step)
    (live mid there after : Standing) → Took live e mid → GoesOn how order mid there
    → Arrives how order old.nodes.items n there new.nodes.items number → length new.nodes.items ≤ n
    → Goes how order old n live e new after
goes_past how order old new n number e live mid there after took ahead arrives past =
    λ image nodes node found here at planned.
    let plans = by_order order in
    let led = took image plans node node at.stands (no_way plans node live.steps.items at.steps) planned.0 in
    let mid_node : Node = node_of led.0 (one_more node.had e.rank) in
    let far = ahead image node mid_node led.2 led.3
    (found_reached image order node (node_found image order old.nodes.items nodes found.are n node here)) in
    let kept = arrives image nodes node far.0 found.are far.1 (before_at image nodes n node here) far.2 in
    absurd (not_kept order new.nodes.items n past image kept.more node kept.are (kept.grows n node here))

-- ---- each turn of a list, from its end on

-- of those that are left nothing is said yet, and the others are covered
abbrev pub GoneFrom : How → List ℕ → Search → ℕ → Standing → List Step → List Step → Search → Standing → Type 0
GoneFrom how order old n live turns left new after =
    KeepsAt how order old n live new after (λ node. ArePlanned order node turns)
    (λ more node. (i : ℕ) (e : Step) → slice_get turns i ≡ Some e
    → (slice_get left i ≡ Some e) ⊎ IsReachedTurn how order new.leads.items n more node e)

pub none_gone : (how : How) (order : List ℕ) (old : Search) (n : ℕ) (live : Standing) (turns : List Step)
    → GoneFrom how order old n live turns turns old live
none_gone how order old n live turns = λ image nodes node found there at planned. (
  record {
    more = nodes;
    grows = grows_none nodes;
    found = found;
    leads = leads_none old.leads.items;
    holds = λ i e has. inl has;
  },
  at,
)

-- those that are left are the first ones
abbrev pub Firsts : List Step → List Step → Type 0
Firsts left turns = (i : ℕ) (e : Step) → slice_get left i ≡ Some e → slice_get turns i ≡ Some e

pub one_gone : (how : How) (order : List ℕ) (old mid new : Search) (n : ℕ) (live between after : Standing)
    (turns left rest : List Step) (e : Step) → Firsts left turns → left ≡ rest ++ e ∷ []
    → GoneFrom how order old n live turns left mid between → Goes how order mid n between e new after
    → Firsts rest turns × GoneFrom how order old n live turns rest new after
one_gone how order old mid new n live between after turns left rest e firsts is gone goes = (
  λ i x at. firsts i x (subst (λ xs. slice_get xs i ≡ Some x) (sym is) (stays_at rest e i x at)),
  λ image nodes node found there at planned.
      let end : slice_get turns (length rest) ≡ Some e =
      firsts (length rest) e (subst (λ xs. slice_get xs (length rest) ≡ Some e) (sym is) (at_last rest e)) in
      let before = gone image nodes node found there at planned in
      let first = before.0 in
      let later = goes image first.more node first.found (first.grows n node there) before.1
      (planned (length rest) e end) in
      let second = later.0 in (
        record {
          more = second.more;
          grows = grows_on nodes first.more second.more first.grows second.grows;
          found = second.found;
          leads = leads_then old.leads.items mid.leads.items new.leads.items first.leads second.leads;
          holds = λ i x has. elim (first.holds i x has) [
            | inr covered ↦ inr
                (turn_more how order mid.leads.items new.leads.items n first.more second.more node x second.grows
                second.leads covered)
            | inl was ↦ elim (was_or_new rest e i x (subst (λ xs. slice_get xs i ≡ Some x) is was)) [
              | inl still ↦ inl still
              | inr last ↦ inr
                  (subst (λ y. IsReachedTurn how order new.leads.items n second.more node y) (same_Some e x last.1)
                  second.holds)
            ]
          ];
        },
        later.1,
      ),
)

pub all_gone : (how : How) (order : List ℕ) (old new : Search) (n : ℕ) (live after : Standing) (turns left : List Step)
    → length left ≡ 0 → GoneFrom how order old n live turns left new after
    → GoesEach how order old n live turns new after
all_gone how order old new n live after turns left none gone = λ image nodes node found there at planned.
    let both = gone image nodes node found there at planned in
    let far = both.0 in (
      record {
        more = far.more;
        grows = far.grows;
        found = far.found;
        leads = far.leads;
        holds = λ i e has. elim (far.holds i e has) [
          | inl still ↦ let inside = slice_get_within left i e still in absurd (omega (arith, inside, none))
          | inr covered ↦ covered
        ];
      },
      both.1,
    )

-- ---- a rank

-- the rank isn't there, or all its harts are stopped
pub closed_done : (how : How) (order : List ℕ) (old : Search) (n : ℕ) (live : Standing) (rank : ℕ)
    → ((own : RankState) → slice_get live.cluster.ranks.items rank ≡ Some own → IsDone (in_slot order) (rank_of own))
    → ClosesRank how order old n live rank old live
closed_done how order old n live rank done = λ image nodes node found there at needs. (
  record {
    more = nodes;
    grows = grows_none nodes;
    found = found;
    leads = leads_none old.leads.items;
    holds = λ x here. inl (by_state image live node at.stands rank (IsDone (in_slot order)) done x here);
  },
  at,
)

-- no rank of that number has had turns
pub closed_none : (how : How) (order : List ℕ) (old : Search) (n : ℕ) (live : Standing) (rank : ℕ)
    → length live.had.items ≤ rank → ClosesRank how order old n live rank old live
closed_none how order old n live rank past = λ image nodes node found there at needs. (
  record {
    more = nodes;
    grows = grows_none nodes;
    found = found;
    leads = leads_none old.leads.items;
    holds = λ x here.
        let inside = slice_get_within node.cluster.ranks rank x here in
        absurd (omega (arith, inside, past, (at.stands).each));
  },
  at,
)

-- all its turns were taken
pub closed_by : (how : How) (order : List ℕ) (old new : Search) (n : ℕ) (live after : Standing) (rank hart : ℕ)
    (turns : List Step) → IsNextHart order live rank (Some hart) → HasAllTurns live.cluster rank hart turns
    → AreTurnsOf rank hart turns → GoesEach how order old n live turns new after → ClosesRank how order old n live rank new after
closed_by how order old new n live after rank hart turns next all own goes = λ image nodes node found there at needs.
    let hart_is : hart ≡ in_slot order (node.had rank) =
    next.2 ∙ ap (in_slot order) (sym ((at.stands).had rank next.0 next.1)) in
    let both = goes image nodes node found there at (λ i e has.
    let of = own i e has in
    (of.hart_is ∙ (hart_is ∙ ap (λ r. in_slot order (node.had r)) (sym of.rank_is)), of.low)) in
    let far = both.0 in (
      record {
        more = far.more;
        grows = far.grows;
        found = far.found;
        leads = far.leads;
        holds = λ x here. inr (λ e new_cluster is its leads.
            let one = all image node.cluster new_cluster e (at.stands).stands is (its ∙ sym hart_is) leads in
            subst (λ r. IsReachedFrom how order new.leads.items r n far.more (node_of new_cluster (one_more node.had r))) is
            (far.holds one.0 e one.1 new_cluster leads));
      },
      both.1,
    )

-- ---- all ranks

-- a cluster that was reached from an image has at most 8
few_of : (image : ImageParts) (c : Cluster) (steps : List Step) → IsRun (loaded_cluster image) steps c → IsImage image
    → length c.ranks ≤ 8
few_of image c steps run right =
    let comes = comes_reached image steps c run in let few = right.few_ranks in omega (arith, comes.count, few)

-- where a standing is the node, its first so many ranks are closed
abbrev pub ClosesBelow : How → List ℕ → Search → ℕ → Standing → ℕ → Search → Standing → Type 0
ClosesBelow how order old n live count new after =
    KeepsAt how order old n live new after (λ node. Unit {0})
    (λ more node. AreClosedBelow how order new.leads.items n count more node)

pub none_closed : (how : How) (order : List ℕ) (old : Search) (n : ℕ) (live : Standing)
    → ClosesBelow how order old n live 0 old live
none_closed how order old n live = λ image nodes node found there at needs. (
  record {
    more = nodes;
    grows = grows_none nodes;
    found = found;
    leads = leads_none old.leads.items;
    holds = λ r low. absurd (omega (arith, low));
  },
  at,
)

pub one_closed : (how : How) (order : List ℕ) (old mid new : Search) (n : ℕ) (live between after : Standing) (count : ℕ)
    → ClosesBelow how order old n live count mid between → ClosesRank how order mid n between count new after
    → ClosesBelow how order old n live (count + 1) new after
one_closed how order old mid new n live between after count below one = λ image nodes node found there at needs.
    let before = below image nodes node found there at tt in
    let first = before.0 in
    let later = one image first.more node first.found (first.grows n node there) before.1 tt in
    let second = later.0 in (
      record {
        more = second.more;
        grows = grows_on nodes first.more second.more first.grows second.grows;
        found = second.found;
        leads = leads_then old.leads.items mid.leads.items new.leads.items first.leads second.leads;
        holds = λ r low. elim (cases_eq count r) [
          | inl same ↦ subst (IsClosedFrom how order new.leads.items n second.more node) same second.holds
          | inr other ↦ closed_more how order mid.leads.items new.leads.items n first.more second.more node r second.grows
              second.leads (first.holds r (omega (arith, low, other)))
        ];
      },
      later.1,
    )

-- each rank is closed, and it was told whether nobody goes on, who is stuck, and who needs buffers
pub visited : (how : How) (order : List ℕ) (old new : Search) (n : ℕ) (k : KeptNode) → slice_get old.nodes.items n ≡ Some k
    → (live after : Standing) → IsLiveOf k live → (count : ℕ) (visit : Visit)
    → min (length live.cluster.ranks.items) 255 ≤ count → TellsEnd live.cluster order visit.end
    → IsDeadlockVerdict after.cluster (option_map (λ ranks. ranks.items) visit.stuck)
    → (waits_in how ≡ true → TellsNeed after (option_map (λ ranks. ranks.items) visit.need))
    → (waits_in how ≡ true → TellsResting after visit.resting)
    → ((image : ImageParts) (here : Node) → StandsAt image live here → IsFitFor how here.cluster)
    → ClosesBelow how order old n live count new after
    → KeepsOf how order old n new (IsVisited how order new.leads.items n visit)
visited how order old new n k at live after is count visit enough tells verdict needs rest fits below = λ image nodes node found there.
    let here = live_at order old.nodes.items n k at live is image nodes node found.are there in
    let stands = here.stands in
    let both = below image nodes node found there here tt in
    let far = both.0 in
    let many : length node.cluster.ranks ≡ length live.cluster.ranks.items =
    ap (λ (rs : List Rank). length rs) (stands.stands).ranks_are ∙ length-map live.cluster.ranks.items rank_of in
    let way = node_found image order old.nodes.items nodes found.are n node there in
    record {
      more = far.more;
      grows = far.grows;
      found = far.found;
      leads = far.leads;
      holds = record {
        closed = λ r x here.
            let inside = slice_get_within node.cluster.ranks r x here in
            far.holds r (omega (arith, inside, many, stands.few, enough)) x here;
        end = tells image node.cluster stands.stands stands.few;
        stuck = λ right.
            verdict image node.cluster
            (record { right = right; reached = (way.0, (way.1).run); stands = ((both.1).stands).stands });
        fit = fits image node stands;
        need = λ right one waits. needs waits image node right (way.0, (way.1).run) (both.1).stands one;
        resting = λ right waits. rest waits image node (both.1).stands (few_of image node.cluster way.0 (way.1).run right);
      };
    }

-- What nodes cover, and lists of them that grow.
use Rattle.std.specs.Prelude.{ℕ, zero, suc, ◌+◌, ◌%◌, ◌<◌, ◌≡◌, List, [], ◌∷◌, ◌++◌, length, option_map, slice_get, Option, Some, None}
use Rattle.std.proofs.Common.{refl, sym, ap, ◌∙◌, subst, arith, inl, inr}
use Rattle.std.proofs.lemmas.Option.{same_Some, slice_get-map, slice_get_within}
use Rattle.std.proofs.lemmas.List.{length-append}
use Rattle.rv_image_types.specs.declared.images.ImageParts.{ImageParts}
use Rattle.mp_alike_laws.specs.Renaming.{no_renaming}
use Rattle.cl_deeds.specs.Orders.{in_slot}
use Rattle.cl_machine.specs.declared.steps.Step.{Step}
use Rattle.cl_machine.specs.Cluster.{Cluster}
use Rattle.cl_replay.specs.Kept.{RanksAt, ranks_at}
use Rattle.cl_state.specs.Rank.{Rank}
use Rattle.cl_state.specs.Room.{rank_of}
use Rattle.cl_state.specs.declared.state.RankState.{RankState}
use Rattle.cl_order_laws.specs.Closed.{IsCovered, IsDone, Node, Plans, one_more}
use Rattle.cl_order_laws.specs.Laws.{AreAlike as AreSame, IsReached}
use Rattle.cl_order_laws.specs.Sure.{Settles}
use Rattle.cl_order_laws.proofs.Covered.{covered_among, covered_on, only_one}
use Rattle.cl_order_laws.proofs.Likeness.{itself}
use Rattle.cl_moves.specs.Ahead.{GoesAhead}
use Rattle.cl_moves.specs.Posts.{most_posts}
use Rattle.cl_moves.specs.Sure.{GoesSurely}
use Rattle.cl_moves.proofs.Rounds.{same_place}
use Rattle.cl_moves.proofs.Surely.{alike_by, sure_ahead, sure_more, went_covers}
use Rattle.cl_moves.specs.Standing.{IsWay, StandsAt, by_order, node_of}
use Rattle.cl_moves.specs.declared.standing.Standing.{Standing}
use Rattle.cl_explore.specs.Kept.{AreSamePlaces, HaveStayedSince, IsBefore, IsKeptAs, IsKeptOf, IsLed, KeptStandsAt}
use Rattle.cl_contest_laws.specs.Below.{AreAlikeNodes}
use Rattle.cl_contests.specs.Below.{Contest}
use Rattle.cl_contests.specs.Below.{SettlesFirst}
use Rattle.cl_contest_laws.specs.Lists.{IsOneOf}
use Rattle.cl_contests.specs.Going.{IsSettledThere, LeadsOn}
use Rattle.cl_contests.proofs.Below.{source_law}
use Rattle.cl_explore.specs.How.{AreAlikeFor, AreAlikeIn, How, at_once, by_contest, plainly}
use Rattle.cl_explore.specs.Covering.{AreJoined, AreLeads, AreNodes, Grows, HasLead, HasLeadBy, IsClosedAt, IsClosedFrom, IsReachedFrom, IsReachedTurn, LeadsGrow, Reaches}
use Rattle.cl_explore.specs.Searching.{Adds, Arrives, GoesOn, IsFoundIn}
use Rattle.cl_explore.specs.declared.kept.KeptNode.{KeptNode}
use Rattle.cl_explore.specs.declared.leads.Lead.{Lead}
use Rattle.cl_explore.proofs.Lists.{at_inside, at_last, stays_at, was_or_new}
use Rattle.cl_explore.proofs.Keeping.{found_reached, kept_stands, led_more, node_found, start_found}
use Rattle.cl_explore.proofs.Staying.{have_stayed}

-- ---- one that is alike a node

pub covered_alike : (plans : Plans) (nodes : List Node) (here other : Node) (i : ℕ) → AreAlikeNodes plans here other
    → slice_get nodes i ≡ Some other → IsCovered plans nodes here
covered_alike plans nodes here other i alike at = record {
  index = i;
  node = other;
  there = at;
  names = alike.names;
  many = ((alike.alike).ranks).many;
  ranks = λ r rank was.
      let w = ((alike.alike).ranks).each r rank was in (
        w.0,
        w.1,
        record {
          turns = 0;
          then = rank;
          after = here.had r;
          ahead = (refl, refl);
          alike = w.2;
          place = alike.places r rank was;
        },
      );
  hubs = (alike.alike).hubs;
  boxes = (alike.alike).boxes;
}

-- ---- lists that grow

pub grows_none : (nodes : List Node) → Grows nodes nodes
grows_none nodes = λ i node at. at

pub grows_on : (a b c : List Node) → Grows a b → Grows b c → Grows a c
grows_on a b c first second = λ i node at. second i node (first i node at)

pub covered_more : (plans : Plans) (nodes more : List Node) (here : Node) → Grows nodes more → IsCovered plans nodes here
    → IsCovered plans more here
covered_more plans nodes more here grows cov = record {
  index = cov.index;
  node = cov.node;
  there = grows cov.index cov.node cov.there;
  names = cov.names;
  many = cov.many;
  ranks = cov.ranks;
  hubs = cov.hubs;
  boxes = cov.boxes;
}

pub settles_more : (plans : Plans) (most : ℕ) (nodes more : List Node) → Grows nodes more → (n : ℕ) (here : Node)
    → Settles plans most nodes n here → Settles plans most more n here
settles_more plans most nodes more grows zero here cov = covered_more plans nodes more here grows cov
settles_more plans most nodes more grows (suc n) here settles = elim settles [
  | inl cov ↦ inl (covered_more plans nodes more here grows cov)
  | inr on ↦ elim on [
    | inl ahead ↦ inr (inl (ahead.0, ahead.1, settles_more plans most nodes more grows n ahead.0 ahead.2))
    | inr turn ↦ inr (inr (
      turn.0,
      turn.1,
      λ e new is hart leads.
          settles_more plans most nodes more grows n (node_of new (one_more here.had turn.0)) (turn.2 e new is hart leads),
    ))
  ]
]

-- the same where turns go first that nobody contests
settled_into : (contest : Contest) (Is Then : Cluster → Type 0) → ((c : Cluster) → Is c → Then c) → (n : ℕ) (c : Cluster)
    → SettlesFirst contest Is n c → SettlesFirst contest Then n c
settled_into contest Is Then into zero c settled =
    (settled.0, ((settled.1).0, into (settled.1).0 (settled.1).1, (settled.1).2))
settled_into contest Is Then into (suc n) c settled = (
  settled.0,
  elim settled.1 [
    | inl here ↦ inl (here.0, into here.0 here.1, here.2)
    | inr on ↦ inr (on.0, on.1, on.2, on.3, on.4, λ new turn. settled_into contest Is Then into n new (on.5 new turn))
  ],
)

one_of_more : (nodes more : List Node) → Grows nodes more → (c : Cluster) → IsOneOf nodes c → IsOneOf more c
one_of_more nodes more grows c is = (is.0, is.1, grows is.0 is.1 is.2, is.3)

pub reaches_more : (how : How) (order : List ℕ) (nodes more : List Node) (here : Node) → Grows nodes more
    → Reaches how order nodes here → Reaches how order more here
reaches_more at_once order nodes more here grows settled =
    (settled.0, settles_more (by_order order) most_posts nodes more grows settled.0 here settled.1)
reaches_more plainly order nodes more here grows cov = covered_more (by_order order) nodes more here grows cov
reaches_more (by_contest contest) order nodes more here grows settled = (
  settled.0,
  settled_into contest (IsOneOf nodes) (IsOneOf more) (one_of_more nodes more grows) settled.0 here.cluster settled.1,
)

-- no turns go first
abbrev pub IsUncontested : How → Type 0
IsUncontested (by_contest contest) = ⊥
IsUncontested _ = Unit {0}

-- one that is covered is reached, and so is one that is covered by one that is reached, where no turns go first
pub reaches_covered : (how : How) (order : List ℕ) (nodes : List Node) (here : Node) → IsUncontested how
    → IsCovered (by_order order) nodes here → Reaches how order nodes here
reaches_covered at_once order nodes here none cov = (0, cov)
reaches_covered plainly order nodes here none cov = cov
reaches_covered (by_contest contest) order nodes here none cov = absurd none

pub reaches_on : (how : How) (order : List ℕ) (nodes : List Node) (here there : Node) → IsUncontested how
    → IsCovered (by_order order) (there ∷ []) here → Reaches how order nodes there → Reaches how order nodes here
reaches_on at_once order nodes here there none cov settled = (suc settled.0, inr (inl (there, cov, settled.1)))
reaches_on plainly order nodes here there none cov next =
    covered_on (by_order order) (there ∷ []) nodes here cov
    (subst (λ (n : Node). IsCovered (by_order order) nodes n) (only_one there cov.node cov.index cov.there) next)
reaches_on (by_contest contest) order nodes here there none cov next = absurd none

-- what nodes reach is reached by each list that has them
pub among_one : (nodes : List Node) (i : ℕ) (node : Node) → slice_get nodes i ≡ Some node → (j : ℕ) (x : Node)
    → slice_get (node ∷ []) j ≡ Some x → (k : ℕ) × (slice_get nodes k ≡ Some x)
among_one nodes i node at j x is = (i, subst (λ y. slice_get nodes i ≡ Some y) (only_one node x j is) at)

module _ (plans : Plans) (nodes more : List Node)
    (among : (i : ℕ) (node : Node) → slice_get nodes i ≡ Some node → (j : ℕ) × (slice_get more j ≡ Some node)) where
  covered_in : (here : Node) → IsCovered plans nodes here → IsCovered plans more here
  covered_in here cov = covered_among plans nodes more here cov (among cov.index cov.node cov.there)

  pub settles_in : (most n : ℕ) (here : Node) → Settles plans most nodes n here → Settles plans most more n here
  settles_in most zero here cov = covered_in here cov
  settles_in most (suc n) here settles = elim settles [
    | inl cov ↦ inl (covered_in here cov)
    | inr on ↦ elim on [
      | inl ahead ↦ inr (inl (ahead.0, ahead.1, settles_in most n ahead.0 ahead.2))
      | inr turn ↦ inr (inr (
        turn.0,
        turn.1,
        λ e new is hart leads.
            settles_in most n (node_of new (one_more here.had turn.0)) (turn.2 e new is hart leads),
      ))
    ]
  ]

pub reaches_in : (how : How) (order : List ℕ) (nodes : List Node) (i : ℕ) (node here : Node)
    → slice_get nodes i ≡ Some node → Reaches how order (node ∷ []) here → Reaches how order nodes here
reaches_in at_once order nodes i node here at settled =
    (settled.0, settles_in (by_order order) (node ∷ []) nodes (among_one nodes i node at) most_posts settled.0 here settled.1)
reaches_in plainly order nodes i node here at cov =
    covered_in (by_order order) (node ∷ []) nodes (among_one nodes i node at) here cov
reaches_in (by_contest contest) order nodes i node here at settled = (
  settled.0,
  settled_into contest (IsOneOf (node ∷ [])) (IsOneOf nodes)
      (λ c is. let k = among_one nodes i node at is.0 is.1 is.2 in (k.0, is.1, k.1, is.3)) settled.0 here.cluster settled.1,
)

-- ---- moves that led somewhere

-- a move of some rank is a move
pub lead_of : (leads : List Lead) (r i j : ℕ) → HasLeadBy leads r i j → HasLead leads i j
lead_of leads r i j led = (led.0, led.1, led.2, led.4, led.5)

pub lead_more : (leads more : List Lead) (r i j : ℕ) → LeadsGrow leads more → HasLeadBy leads r i j → HasLeadBy more r i j
lead_more leads more r i j grows led = (led.0, led.1, grows led.0 led.1 led.2, led.3, led.4, led.5)

pub from_more : (how : How) (order : List ℕ) (leads longer : List Lead) (r i : ℕ) (nodes more : List Node) (here : Node)
    → Grows nodes more → LeadsGrow leads longer → IsReachedFrom how order leads r i nodes here
    → IsReachedFrom how order longer r i more here
from_more how order leads longer r i nodes more here grows on reached = record {
  number = reached.number;
  next = reached.next;
  led = lead_more leads longer r i reached.number on reached.led;
  there = grows reached.number reached.next reached.there;
  reaches = reached.reaches;
}

pub turn_more : (how : How) (order : List ℕ) (leads longer : List Lead) (i : ℕ) (nodes more : List Node) (node : Node)
    (e : Step) → Grows nodes more → LeadsGrow leads longer → IsReachedTurn how order leads i nodes node e
    → IsReachedTurn how order longer i more node e
turn_more how order leads longer i nodes more node e grows on reached = λ new is.
    from_more how order leads longer e.rank i nodes more (node_of new (one_more node.had e.rank)) grows on (reached new is)

pub closed_more : (how : How) (order : List ℕ) (leads longer : List Lead) (i : ℕ) (nodes more : List Node) (node : Node)
    (r : ℕ) → Grows nodes more → LeadsGrow leads longer → IsClosedFrom how order leads i nodes node r
    → IsClosedFrom how order longer i more node r
closed_more how order leads longer i nodes more node r grows on closed = λ rank at. elim (closed rank at) [
  | inl done ↦ inl done
  | inr reached ↦ inr (λ e new is hart turn.
      from_more how order leads longer r i nodes more (node_of new (one_more node.had r)) grows on (reached e new is hart turn))
]

-- a node that is closed so is closed over all nodes
pub closed_over : (how : How) (order : List ℕ) (leads : List Lead) (i : ℕ) (nodes : List Node) (node : Node) (r : ℕ)
    → IsClosedFrom how order leads i nodes node r → IsClosedAt how order nodes node r
closed_over how order leads i nodes node r closed = λ rank at. elim (closed rank at) [
  | inl done ↦ inl done
  | inr reached ↦ inr (λ e new is hart turn.
      let f = reached e new is hart turn in
      reaches_in how order nodes f.number f.next (node_of new (one_more node.had r)) f.there f.reaches)
]

-- what leads there are still lead between nodes that grow
pub leads_more : (how : How) (order : List ℕ) (nodes more : List Node) (leads : List Lead) → Grows nodes more
    → AreLeads how order nodes leads → AreLeads how order more leads
leads_more how order nodes more leads grows are = λ k lead at.
    let v = are k lead at in
    (v.0, v.1, grows lead.from v.0 v.2, grows lead.to v.1 v.3, v.4)

pub leads_on : (how : How) (order : List ℕ) (nodes : List Node) (leads : List Lead) (lead : Lead) (from to : Node)
    → AreLeads how order nodes leads → slice_get nodes lead.from ≡ Some from → slice_get nodes lead.to ≡ Some to
    → AreJoined how order lead.rank from to → AreLeads how order nodes (leads ++ lead ∷ [])
leads_on how order nodes leads lead from to are start end joined = λ k x at. elim (was_or_new leads lead k x at) [
  | inl was ↦ are k x was
  | inr new ↦
      let is : lead ≡ x = same_Some lead x new.1 in (
        from,
        to,
        subst (λ (l : Lead). slice_get nodes l.from ≡ Some from) is start,
        subst (λ (l : Lead). slice_get nodes l.to ≡ Some to) is end,
        subst (λ (l : Lead). AreJoined how order l.rank from to) is joined,
      )
]

pub are_more : (image : ImageParts) (order : List ℕ) (kept : List KeptNode) (nodes : List Node) (k : KeptNode) (node : Node)
    → AreNodes image order kept nodes → KeptStandsAt image k node → IsLed image order nodes (length nodes) k node
    → AreNodes image order (kept ++ k ∷ []) (nodes ++ node ∷ [])
are_more image order kept nodes k node are stands led =
    let grows : (i : ℕ) (x : Node) → slice_get nodes i ≡ Some x → slice_get (nodes ++ node ∷ []) i ≡ Some x =
    λ i x at. stays_at nodes node i x at in
    record {
      many = length-append nodes (node ∷ []) ∙ (ap (λ n. n + 1) are.many ∙ sym (length-append kept (k ∷ [])));
      each = λ i x at. elim (was_or_new kept k i x at) [
        | inl was ↦
            let v = are.each i x was in
            (v.0, grows i v.0 v.1, v.2, led_more image order nodes (nodes ++ node ∷ []) i x v.0 grows v.3)
        | inr new ↦
            let is : k ≡ x = same_Some k x new.1 in
            let place : length nodes ≡ i = are.many ∙ sym new.0 in (
              node,
              subst (λ j. slice_get (nodes ++ node ∷ []) j ≡ Some node) place (at_last nodes node),
              subst (λ y. KeptStandsAt image y node) is stands,
              subst (λ y. IsLed image order (nodes ++ node ∷ []) i y node) is
                  (subst (λ j. IsLed image order (nodes ++ node ∷ []) j k node) place
                  (led_more image order nodes (nodes ++ node ∷ []) (length nodes) k node grows led)),
            )
      ];
    }

-- ---- a standing goes on

-- a node that is alike where it goes covers that
alike_covers : (order : List ℕ) (there node : Node) → AreAlikeNodes (by_order order) there node
    → IsCovered (by_order order) (node ∷ []) there
alike_covers order there node alike = covered_alike (by_order order) (node ∷ []) there node 0 alike refl

pub goes_plainly : (order : List ℕ) (old new : Standing) → GoesAhead order old new → GoesOn plainly order old new
goes_plainly order old new ahead = λ image start here stands way reached.
    let v = ahead image start here stands way in
    let cov = went_covers (by_order order) here v.0 v.3
    (alike_by (by_order order) start v.0 new.steps.items reached v.2) in (
      v.0,
      v.1,
      v.2,
      λ node alike. reaches_on plainly order (node ∷ []) here v.0 tt cov (alike_covers order v.0 node alike),
    )

pub goes_surely : (order : List ℕ) (old mid new : Standing) → GoesAhead order old mid → GoesSurely order mid new
    → GoesOn at_once order old new
goes_surely order old mid new ahead surely = λ image start here stands way reached.
    let v = sure_more order old mid new (sure_ahead order old mid ahead) surely image start here stands way reached in (
      v.0,
      v.1,
      v.2,
      λ node alike. v.3 (node ∷ [])
          (reaches_covered at_once order (node ∷ []) v.0 tt (alike_covers order v.0 node alike)),
    )

-- turns that nobody contests
same_there : (node c : Cluster) → c ≡ node → (n : Node) → n.cluster ≡ node → IsOneOf (n ∷ []) c
same_there node c is n at = (0, n, refl, at ∙ sym is)

pub goes_uncontested : (order : List ℕ) (contest : Contest) (old new : Standing)
    → LeadsOn order old new (IsSettledThere contest) → GoesOn (by_contest contest) order old new
goes_uncontested order contest old new leads = λ image start here stands way reached.
    let v = leads image start here stands way reached in (
      v.0,
      v.1,
      v.2,
      λ node alike.
          let settled = v.3 node.cluster alike in (
            settled.0,
            settled_into contest (λ c. c ≡ node.cluster) (IsOneOf (node ∷ []))
                (λ c is. same_there node.cluster c is node refl) settled.0 here.cluster settled.1,
          ),
    )

-- ---- a standing arrives

-- the state's rank is the cluster's
pub by_state : (image : ImageParts) (live : Standing) (node : Node) → StandsAt image live node → (rank : ℕ)
    → (P : Rank → Type 0)
    → ((own : RankState) → slice_get live.cluster.ranks.items rank ≡ Some own → P (rank_of own))
    → (x : Rank) → slice_get node.cluster.ranks rank ≡ Some x → P x
by_state image live node at rank P each x here =
    let mapped : option_map rank_of (slice_get live.cluster.ranks.items rank) ≡ Some x =
    sym (slice_get-map rank_of live.cluster.ranks.items rank)
    ∙ (sym (ap (λ (rs : List Rank). slice_get rs rank) (at.stands).ranks_are) ∙ here) in
    of (slice_get live.cluster.ranks.items rank) refl mapped
  where
    of : (o : Option RankState) → slice_get live.cluster.ranks.items rank ≡ o → option_map rank_of o ≡ Some x → P x
    of None is mapped = absurd (cc)
    of (Some own) is mapped = subst P (same_Some (rank_of own) x mapped) (each own is)

same_found : (image : ImageParts) (order : List ℕ) (standing : Standing) (k : KeptNode) (here node : Node)
    → StandsAt image standing here → KeptStandsAt image k node → AreSame here.cluster node.cluster
    → AreSamePlaces order standing k.had.items → AreAlikeNodes (by_order order) here node
same_found image order standing k here node at kept alike same = record {
  names = alike.0;
  alike = alike.1;
  places = λ r rank there.
      let inside = slice_get_within here.cluster.ranks r rank there in
      let n = at_inside standing.had.items r (subst (λ c. r < c) (sym at.each) inside) in
      let m = at_inside k.had.items r
      (subst (λ c. r < c) (sym (kept.each ∙ ((alike.1).ranks).many)) inside) in
      elim (same r n.0 m.0 n.1 m.1) [
        | inl place ↦ inl (same_place order (here.had r) (node.had r)
            (ap (λ c. c % length order) (at.had r n.0 n.1)
            ∙ (place ∙ ap (λ c. c % length order) (sym (kept.had r m.0 m.1)))))
        | inr done ↦ inr (by_state image standing here at r (IsDone (in_slot order)) done rank there)
      ];
}

alike_found : (how : How) (image : ImageParts) (order : List ℕ) (standing : Standing) (k : KeptNode) (here node : Node)
    → StandsAt image standing here → KeptStandsAt image k node → AreAlikeIn how here.cluster node.cluster
    → AreSamePlaces order standing k.had.items → AreAlikeFor how order here node
alike_found (by_contest contest) image order standing k here node at kept alike same = alike
alike_found at_once image order standing k here node at kept alike same =
    same_found image order standing k here node at kept alike same
alike_found plainly image order standing k here node at kept alike same =
    same_found image order standing k here node at kept alike same

same_itself : (order : List ℕ) (here : Node) → IsReached here.cluster → AreAlikeNodes (by_order order) here here
same_itself order here reached = record {
  names = no_renaming;
  alike = itself here.cluster reached;
  places = λ r rank there. inl (λ k. refl);
}

alike_itself : (how : How) (order : List ℕ) (here : Node) → IsReached here.cluster → AreAlikeFor how order here here
alike_itself (by_contest contest) order here reached =
    source_law.same contest.wild here.cluster here.cluster (no_renaming, itself here.cluster reached)
alike_itself at_once order here reached = same_itself order here reached
alike_itself plainly order here reached = same_itself order here reached

-- alike a node that is kept
pub arrives_found : (how : How) (order : List ℕ) (kept : List KeptNode) (parent i : ℕ) (standing : Standing)
    → IsFoundIn how order kept standing i → Arrives how order kept parent standing kept i
arrives_found how order kept parent i standing in_it = λ image nodes before here are at from way.
    let v = are.each i in_it.0 in_it.1 in
    record {
      more = nodes;
      grows = grows_none nodes;
      are = are;
      holds = (
        v.0,
        v.1,
        alike_found how image order standing in_it.0 here v.0 at v.2
            (in_it.2 image here v.0 at v.2 (start_found image order kept nodes are parent before here standing.steps.items from way)
            (node_found image order kept nodes are i v.0 v.1)) in_it.3,
      );
    }

-- with the cluster that a standing is
kept_of : (standing : Standing) (parent : ℕ) (k : KeptNode) (cluster : RanksAt) → IsKeptAs standing cluster parent k
    → cluster ≡ ranks_at standing.cluster → IsKeptOf standing parent k
kept_of standing parent k cluster keeps is = record {
  cluster = keeps.cluster_is ∙ is;
  whole = keeps.whole;
  had = keeps.had;
  parent_is = keeps.parent_is;
  turns = keeps.turns;
}

-- the node from which it was found is that of the number that is told
stayed_since : (image : ImageParts) (order : List ℕ) (kept : List KeptNode) (nodes : List Node) (parent : ℕ)
    (standing : Standing) (before here : Node) → AreNodes image order kept nodes → StandsAt image standing here
    → IsBefore image nodes parent (length nodes) before → IsWay (by_order order) before standing.steps.items here
    → HaveStayedSince kept parent standing
stayed_since image order kept [] parent standing before here are at from way = λ k there.
    let inside = slice_get_within kept parent k there in absurd (omega (arith, inside, are.many))
stayed_since image order kept (x ∷ nodes) parent standing before here are at from way = λ k there.
    let v = are.each parent k there in
    let same : v.0 ≡ before = same_Some v.0 before (sym v.1 ∙ from.1) in
    have_stayed image order k standing before here (subst (KeptStandsAt image k) same v.2) at way

-- kept as one more
pub adds_new : (order : List ℕ) (kept new : List KeptNode) (parent number : ℕ) (standing : Standing)
    (k : KeptNode) (cluster : RanksAt) → number ≡ length kept → (HaveStayedSince kept parent standing → cluster ≡ ranks_at standing.cluster)
    → IsKeptAs standing cluster parent k → new ≡ kept ++ k ∷ [] → Adds order kept parent standing new number
adds_new order kept new parent number standing k cluster last beside keeps same = (
  (k, same),
  λ image nodes before here are at from way.
      let is = kept_of standing parent k cluster keeps
      (beside (stayed_since image order kept nodes parent standing before here are at from way)) in
      record {
        more = nodes ++ here ∷ [];
        grows = λ i node there. stays_at nodes here i node there;
        are = subst (λ ks. AreNodes image order ks (nodes ++ here ∷ [])) (sym same)
            (are_more image order kept nodes k here are (kept_stands image standing parent k here is at)
            (record {
              before = before;
              from = subst (λ p. IsBefore image nodes p (length nodes) before) (sym is.parent_is) from;
              way = subst (λ es. IsWay (by_order order) before es here) (sym is.turns) way;
            }));
        holds = subst (λ n. slice_get (nodes ++ here ∷ []) n ≡ Some here) (are.many ∙ sym last) (at_last nodes here);
      },
)

-- and the standing is alike it
pub arrives_new : (how : How) (order : List ℕ) (kept new : List KeptNode) (parent number : ℕ) (standing : Standing)
    → Adds order kept parent standing new number
    → Arrives how order kept parent standing new number
arrives_new how order kept new parent number standing adds = λ image nodes before here are at from way.
    let far = adds.1 image nodes before here are at from way in
    let reached = found_reached image order here
    (start_found image order kept nodes are parent before here standing.steps.items from way) in
    record {
      more = far.more;
      grows = far.grows;
      are = far.are;
      holds = (here, far.holds, alike_itself how order here reached);
    }

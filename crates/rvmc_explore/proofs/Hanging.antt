-- What the moves of a search say of runs in which sends wait.
use Rattle.std.proofs.Common.{ℕ, zero, suc, ◌≡◌, ◌<◌, ◌==◌, ◌⊎◌, ◌∙◌, List, [], ◌∷◌, length, Bool, true, false, IsTrue, Some, slice_get, inl, inr, refl, sym, subst, ap, arith}
use Rattle.std.specs.Prelude.{◌&&◌, ◌||◌}
use Rattle.std.specs.List.{list_any}
use Rattle.std.proofs.lemmas.Bool.{and_from, eq-eqb, eqb-true}
use Rattle.std.proofs.lemmas.List.Folds.{list_any_at}
use Rattle.std.proofs.lemmas.Option.{get_or_from_slice_get, same_Some, slice_get_within}
use Rattle.rv_image_types.specs.Image.{IsImage}
use Rattle.rv_image_types.specs.declared.images.ImageParts.{ImageParts}
use Rattle.cl_state.specs.Rank.{Rank}
use Rattle.cl_machine.specs.Cluster.{Cluster, IsRun}
use Rattle.cl_machine.specs.declared.steps.Step.{Step}
use Rattle.cl_order_laws.specs.Closed.{FollowPlans, IsEnd, Node, Plans, one_more}
use Rattle.cl_outcome_laws.specs.Unending.{MayEnd}
use Rattle.cl_rest_laws.specs.Rests.{rests}
use Rattle.cl_rests.specs.Sets.{AreResting, in_set}
use Rattle.cl_patient_laws.specs.Patient.{EndsPatiently, HangsIfSendsWait}
use Rattle.cl_patient_laws.specs.Laws.{HasMove, IsMove, IsMoveGraph, IsPatientTrap, Moves}
use Rattle.cl_patient_laws.proofs.Patience.{end_law, never_inside, patient_law}
use Rattle.cl_moves.specs.Standing.{IsWay, by_order, first_node, node_of}
use Rattle.cl_explore.specs.Below.{Contest, IsGood}
use Rattle.cl_explore.proofs.Below.{good_law}
use Rattle.cl_explore.specs.How.{How, IsFitFor, MayBegin, MayWaitIn, at_once, by_contest, plainly}
use Rattle.cl_explore.specs.Covering.{AreJoined, HasLeadBy, Reaches}
use Rattle.cl_explore.specs.Below.{IsOneOf, IsSettled, StartsWell}
use Rattle.cl_explore.specs.Ends.{ExploredFrom, Findings, IsVisitedNode}
use Rattle.cl_explore.specs.declared.leads.Lead.{Lead}
use Rattle.cl_explore.proofs.Keeping.{node_found}
use Rattle.cl_explore.proofs.Lists.{at_inside}
use Rattle.rvmc_explore.specs.Hangs.{NeverHangs}
use Rattle.rvmc_explore.specs.Patient.{Hangs, IsPatientlyLed, PatientlyGoesIn, PatientlyGoesTo, is_in, rests_at}
use Rattle.rvmc_explore.specs.Searched.{GoesTo}
use Rattle.rvmc_explore.proofs.Endless.{end_may}

-- ---- moves, by their ranks

abbrev is_move : ℕ → ℕ → ℕ → Lead → Bool
is_move r i j lead = (lead.rank == r) && ((lead.from == i) && (lead.to == j))

abbrev moves_of : List Lead → Moves
moves_of leads r i j = list_any (is_move r i j) leads

both : (a b : Bool) → (a && b) ≡ true → (a ≡ true) × (b ≡ true)
both true b is = (refl, is)
both false b is = absurd (cc)

move_lead : (leads : List Lead) (r i j : ℕ) → moves_of leads r i j ≡ true → HasLeadBy leads r i j
move_lead [] r i j is = absurd (cc)
move_lead (lead ∷ leads) r i j is = of (λ rest. move_lead leads r i j rest) (is_move r i j lead) refl
  where
    of : (moves_of leads r i j ≡ true → HasLeadBy leads r i j) → (b : Bool) → is_move r i j lead ≡ b
        → HasLeadBy (lead ∷ leads) r i j
    of among true here =
        let u = both (lead.rank == r) ((lead.from == i) && (lead.to == j)) here in
        let v = both (lead.from == i) (lead.to == j) u.1 in
        (0, lead, refl, eqb-true lead.rank r u.0, eqb-true lead.from i v.0, eqb-true lead.to j v.1)
    of among false other =
        let rest = among (sym (ap (λ b. b || moves_of leads r i j) other) ∙ is) in
        (suc rest.0, rest.1, rest.2, rest.3, rest.4, rest.5)

lead_move : (leads : List Lead) (r i j : ℕ) → HasLeadBy leads r i j → moves_of leads r i j ≡ true
lead_move leads r i j led =
    let lead = led.1 in
    list_any_at (is_move r i j) leads led.0 lead (slice_get_within leads led.0 lead led.2)
    (ap (is_move r i j) (get_or_from_slice_get leads led.0 lead lead led.2)
    ∙ and_from (lead.rank == r) ((lead.from == i) && (lead.to == j)) (eq-eqb lead.rank r led.3)
    (and_from (lead.from == i) (lead.to == j) (eq-eqb lead.from i led.4) (eq-eqb lead.to j led.5)))

-- ---- what was found, as a graph of moves

module _ (image : ImageParts) (order : List ℕ) (start : Node) (found : Findings) (limits : IsImage image)
    (explored : ExploredFrom image order start found) (all : found.left ≡ 0) (waiting : found.may_wait ≡ true) where
  abbrev nodes : List Node
  nodes = explored.nodes

  abbrev plans : Plans
  plans = by_order order

  abbrev moves : Moves
  moves = moves_of found.leads

  visited : (i : ℕ) (node : Node) → slice_get nodes i ≡ Some node → IsVisitedNode nodes found.left i node
  visited i node at = (let inside = slice_get_within nodes i node at in omega (arith, inside, all), at)

  reached : (i : ℕ) (node : Node) → slice_get nodes i ≡ Some node
      → (steps : List Step) × IsWay (by_order order) (first_node image) steps node
  reached i node at = node_found image order found.kept nodes explored.are i node at

  -- who rests at a node was noted
  rests_there : (i r : ℕ) (node : Node) → slice_get nodes i ≡ Some node → rests_at found i r ≡ rests node.cluster r 0
  rests_there i r node at =
      let noted = explored.rested limits waiting i node (visited i node at) in ap (λ o. is_in o r) noted.1 ∙ noted.2 r

  -- of a search by turns that nobody contests
  module _ (contest : Contest) (by : explored.how ≡ by_contest contest) where
    graph : IsMoveGraph contest plans nodes moves
    graph = record {
      closed = λ i r node rank at has. elim (explored.follows i r node (visited i node at) rank has) [
        | inl done ↦ inl done
        | inr leads ↦ inr (λ e new is hart turn.
            let f = leads e new is hart turn in
            record {
              j = f.number;
              to = f.next;
              move = lead_move found.leads r i f.number f.led;
              there = f.there;
              settles = subst (λ how. Reaches how order (f.next ∷ []) (node_of new (one_more node.had r))) by f.reaches;
            })
      ];
      fit = λ i node at. subst (λ how. IsFitFor how node.cluster) by (explored.fit i node (visited i node at));
      leads = λ r i j from to move here there. made r i j from to (move_lead found.leads r i j move) here there;
    }
      where
        made : (r i j : ℕ) (from to : Node) → HasLeadBy found.leads r i j → slice_get nodes i ≡ Some from
            → slice_get nodes j ≡ Some to → IsMove contest plans r from to
        made r i j from to led here there =
            let v = explored.leads led.0 led.1 led.2 in
            let first : v.0 ≡ from = same_Some v.0 from (sym v.2 ∙ (ap (slice_get nodes) led.4 ∙ here)) in
            let second : v.1 ≡ to = same_Some v.1 to (sym v.3 ∙ (ap (slice_get nodes) led.5 ∙ there)) in
            let joined = subst (λ k. AreJoined explored.how order k from to) led.3
            (subst (λ n. AreJoined explored.how order (led.1).rank n to) first
            (subst (λ n. AreJoined explored.how order (led.1).rank v.0 n) second v.4)) in
            record {
              new = node_of joined.new (one_more from.had r);
              goes = record {
                step = joined.first;
                rank = joined.own;
                hart = joined.planned;
                leads = joined.leads;
                had = refl;
              };
              settles = subst (λ how. Reaches how order (to ∷ []) (node_of joined.new (one_more from.had r))) by joined.reaches;
            }

    begins : StartsWell contest plans start.cluster
    begins = subst (λ how. MayBegin how order start) by explored.begins

    settled : IsSettled contest (IsOneOf nodes) start.cluster
    settled = subst (λ how. Reaches how order nodes start) by explored.start_is

    waits : contest.may_wait ≡ true
    waits = subst MayWaitIn by (explored.waits waiting)

    good_at : (i : ℕ) (node : Node) → slice_get nodes i ≡ Some node → IsGood contest node.cluster
    good_at i node at =
        let way = reached i node at in
        let fit = graph.fit i node at in
        good_law contest image node.cluster (way.0, (way.1).run) fit.waits fit.stands

    -- ---- where ranks lead that don't rest

    ends_by : (n i : ℕ) (node : Node) → slice_get nodes i ≡ Some node → PatientlyGoesIn found n i → EndsPatiently plans node
    ends_by zero i node at goes =
        let e = explored.sound goes.0 i goes.1 in
        let same : e.0 ≡ node = same_Some e.0 node (sym e.1 ∙ at) in
        end_law.at_end plans node (subst (λ (x : Node). IsEnd plans x.cluster) same e.2)
    ends_by (suc n) i node at goes =
        let j = goes.0 in
        let r = (goes.1).0 in
        let led = (goes.1).1 in
        let v = explored.leads led.0 led.1 led.2 in
        let there : slice_get nodes j ≡ Some v.1 = ap (slice_get nodes) (sym led.5) ∙ v.3 in
        patient_law.path contest plans nodes moves start waits begins graph r i j node v.1 (lead_move found.leads r i j led) at there
        (good_at i node at) (good_at j v.1 there) (sym (rests_there i r node at) ∙ (goes.1).2) (ends_by n j v.1 there goes.2)

    -- from which nodes no such moves lead to an end
    abbrev lost : ℕ → Type 0
    lost i = PatientlyGoesTo found i → ⊥

    trap : IsPatientTrap plans nodes moves lost
    trap = record {
      stays = λ r i j node none move at rests goes.
          none (suc goes.0, (j, (r, move_lead found.leads r i j move, rests_there i r node at ∙ rests), goes.1));
      no_end = λ i node none at end.
          let k = explored.told i node (visited i node at) end in none (0, (k.0, k.1));
    }

    hangs_at : (i : ℕ) (node : Node) → slice_get nodes i ≡ Some node → Hangs found i → HangsIfSendsWait plans node
    hangs_at i node at hangs = record {
      ends = end_may image order start found explored all i node (hangs.goes).0 at (hangs.goes).1;
      never = never_inside contest plans nodes moves start waits begins graph lost trap i node hangs.impatient at (good_at i node at);
    }

    none_by : ((i : ℕ) → i < length nodes → PatientlyGoesTo found i) → NeverHangs order start
    none_by each = λ steps end run follow.
        patient_law.none contest plans nodes moves start waits begins settled graph
        (λ i node at. let goes = each i (slice_get_within nodes i node at) in ends_by goes.0 i node at goes.1)
        steps end run follow

  -- ---- as it is said

  by_how : {P : Type 0} → ((contest : Contest) → explored.how ≡ by_contest contest → P) → P
  by_how {P = P} of = go explored.how refl
    where
      go : (how : How) → explored.how ≡ how → P
      go (by_contest contest) is = of contest is
      go at_once is = absurd (subst MayWaitIn is (explored.waits waiting))
      go plainly is = absurd (subst MayWaitIn is (explored.waits waiting))

  -- the node that hangs is one
  pub some_hangs : (i : ℕ) → i < length found.kept → Hangs found i
      → (node : Node) × (slice_get nodes i ≡ Some node) × HangsIfSendsWait plans node
  some_hangs i low hangs =
      let at = at_inside nodes i (let many = explored.are.many in omega (arith, low, many)) in
      (at.0, at.1, by_how (λ contest by. hangs_at contest by i at.0 at.1 hangs))

  -- and where from each node such moves lead to an end, none is
  pub never_hangs : ((i : ℕ) → i < length found.kept → PatientlyGoesTo found i) → NeverHangs order start
  never_hangs each =
      by_how (λ contest by. none_by contest by (λ i low. each i (let many = explored.are.many in omega (arith, low, many))))

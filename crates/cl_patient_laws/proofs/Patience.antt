-- What the moves of a finished search tell of patient runs.
use Rattle.std.proofs.Common.{◌≡◌, ◌∙◌, ℕ, zero, suc, refl, sym, ap, subst, ◌⊎◌, inl, inr, Bool, true, false, List, [], ◌∷◌, ◌++◌, map, Some}
use Rattle.std.specs.Prelude.{◌==◌, IsTrue}
use Rattle.std.specs.List.{slice_get}
use Rattle.std.proofs.lemmas.Bool.{eq-eqb, eqb-true}
use Rattle.cl_state.specs.Rank.{Rank}
use Rattle.cl_machine.specs.declared.steps.Step.{Step}
use Rattle.cl_machine.specs.Cluster.{Cluster, IsRun}
use Rattle.cl_order_laws.specs.Closed.{FollowPlans, IsDone, IsEnd, Node, Plans, Turns, had_after}
use Rattle.cl_order_laws.specs.Sure.{GoesOn as GoesOnBy, WhereverLeads}
use Rattle.cl_order_laws.proofs.Covered.{node_of, only_one}
use Rattle.cl_order_laws.proofs.Walks.{walk_of}
use Rattle.cl_outcome_laws.specs.Unending.{IsAfter, NeverEnds}
use Rattle.cl_rest_laws.specs.Rests.{rests}
use Rattle.cl_schedule_laws.specs.Machines.{AllWithin as AllInside, Ranks}
use Rattle.cl_schedule_laws.specs.Laws.{IsFound, IsLasting}
use Rattle.cl_schedule_laws.proofs.Walks.{along}
use Rattle.cl_reduction_laws.specs.Below.{AreAlike, Turn}
use Rattle.cl_reduction_laws.specs.Clusters.{AreSure, GoesAnyway, GoesFirst, IsGood, IsStill, IsWithin, Search, State, awake_cluster, cluster_machine}
use Rattle.cl_reduction_laws.specs.Settled.{AllWithin, IsFit, IsSettled, Settles}
use Rattle.cl_reduction_laws.proofs.Clusters.{cluster_machine_law}
use Rattle.cl_reduction_laws.proofs.Good.{good_after}
use Rattle.cl_reduction_laws.proofs.Machine.{taken}
use Rattle.cl_contest_laws.specs.Lists.{IsClosedByContest, IsOneOf, StartsWell}
use Rattle.cl_contest_laws.proofs.Asleep.{asleep}
use Rattle.cl_contest_laws.proofs.Contest.{came, finds}
use Rattle.cl_contest_laws.proofs.Kept.{AreClosed, Anything as AnythingAt, GoesOnSettled, anything_lasts as anything_at_lasts, found, kept}
use Rattle.cl_contest_laws.proofs.Lists.{all_rest, goes_settled, is_end, list_closed, planned_of, settles_in}
use Rattle.cl_contest_laws.proofs.Rest.{Alike, alike_back, alike_on}
use Rattle.cl_contest_laws.proofs.Walks.{IsPlanned, Walked as WalkedBy, by_plans as by_all_plans, walked_from, walks_on}
use Rattle.cl_patient_laws.specs.Patient.{EndsPatiently, GoesOnPatiently, HangsIfSendsWait, NobodyGoes}
use Rattle.cl_patient_laws.specs.Laws.{EndLaw, HasMove, IsMove, IsMoveGraph, IsPatientTrap, Moves, PatientLaw}
use Rattle.cl_patient_laws.proofs.Kept.{ArePatientlyClosed}
use Rattle.cl_patient_laws.proofs.Machine.{is_patient_machine, patient_machine, ready_patient, rests_at, sure_patient}
use Rattle.cl_patient_laws.proofs.Still.{AllStill, still_alike, still_rests, still_walk}
use Rattle.cl_patient_laws.proofs.Walks.{Walk, Walked, arrives, by_plans, turn_of, walked}

-- a node settles, by itself
node_settles : (search : Search) (Is : Cluster → Type 0) (node : State search) → IsFit search node.cluster → Is node.cluster
    → Settles search Is 0 node.cluster
node_settles search Is node fit is = (fit.within, (node.cluster, is, (cluster_machine_law search).itself node))

end_at : (plans : Plans) (c d : Cluster) → c ≡ d → IsEnd plans d → IsEnd plans c
end_at plans c d same is = subst (IsEnd plans) (sym same) is

starts_at : (plans : Plans) (rs : List ℕ) (had : Turns) (c d : Cluster) (last : Node) → c ≡ d
    → GoesOnBy plans rs (node_of c had) last
    → GoesOnBy plans rs (node_of d had) last
starts_at plans rs had c d last same walk = subst (λ k. GoesOnBy plans rs (node_of k had) last) same walk

begins_at : (plans : Plans) (had : Turns) (c d : Cluster) → c ≡ d → EndsPatiently plans (node_of c had)
    → EndsPatiently plans (node_of d had)
begins_at plans had c d same ends = subst (λ k. EndsPatiently plans (node_of k had)) same ends

module _ (search : Search) (plans : Plans) (nodes : List Node) (moves : Moves) (start : Node)
    (may_wait : search.may_wait ≡ true) (well : StartsWell search plans start.cluster)
    (graph : IsMoveGraph search plans nodes moves) where
  abbrev planned : IsPlanned search plans
  planned = planned_of search plans start.cluster well.single

  still_by : (c : Cluster) → NobodyGoes plans c → AllStill search c
  still_by c nobody r rank there = subst (λ h. IsStill c r rank h) (planned r 0) (nobody r 0 rank there)

  nobody_by : (c : Cluster) → AllStill search c → NobodyGoes plans c
  nobody_by c still r n rank there = subst (λ h. IsStill c r rank h) (sym (planned r n)) (still r rank there)

  -- ---- from inside a trap

  module _ (inside : ℕ → Type 0) (trap : IsPatientTrap plans nodes moves inside) where
    abbrev Is : Cluster → Type 0
    Is c = (i : ℕ) × (node : Node) × (slice_get nodes i ≡ Some node) × (node.cluster ≡ c) × inside i

    move_settles : (r i : ℕ) (node here : Node) → inside i → slice_get nodes i ≡ Some node
        → rests node.cluster r 0 ≡ false → HasMove search nodes moves r i here → IsSettled search Is here.cluster
    move_settles r i node here is there none move = (
      (move.settles).0,
      settles_in search (IsOneOf (move.to ∷ [])) Is
          (λ c one. (
            move.j,
            move.to,
            move.there,
            ap (λ (n : Node). n.cluster) (only_one move.to one.1 one.0 one.2) ∙ one.3,
            trap.stays r i move.j node is move.move there none,
          ))
          (move.settles).0 here.cluster (move.settles).1,
    )

    inside_leads : (r i : ℕ) (node : Node) (rank : Rank) → inside i → slice_get nodes i ≡ Some node
        → rests node.cluster r 0 ≡ false
        → IsDone (plans r) rank ⊎ WhereverLeads plans node r (HasMove search nodes moves r i)
        → IsDone (plans r) rank ⊎ WhereverLeads plans node r (λ next. IsSettled search Is next.cluster)
    inside_leads r i node rank is there none (inl done) = inl done
    inside_leads r i node rank is there none (inr leads) =
        inr (λ e new at hart turn. move_settles r i node _ is there none (leads e new at hart turn))

    none_at : (r : ℕ) (node : Node) (c : Cluster) → node.cluster ≡ c → rests c r (search.harts r) ≡ false
        → rests node.cluster r 0 ≡ false
    none_at r node c same none = ap (λ k. rests k r 0) same ∙ ap (rests c r) (sym ((well.single).harts r)) ∙ none

    inside_closed : ArePatientlyClosed search Is
    inside_closed = record {
      fit = λ c is. subst (IsFit search) is.3 (graph.fit is.0 is.1 is.2);
      next = λ r c rank is there none.
          subst (λ k. GoesOnSettled search Is k r rank) is.3
          (goes_settled search plans planned Is r is.1 rank
          (inside_leads r is.0 is.1 rank is.4 is.2 (none_at r is.1 c is.3 none)
          (graph.closed is.0 r is.1 rank is.2 (ap (λ (k : Cluster). slice_get k.ranks r) is.3 ∙ there))));
    }

    pub never_inside : (i : ℕ) (node : Node) → inside i → slice_get nodes i ≡ Some node → IsGood search node.cluster
        → ¬ EndsPatiently plans node
    never_inside i node is there good ends =
        let here : State search = record { cluster = node.cluster; good = good } in
        let settles = node_settles search Is here (graph.fit i node there) (i, node, there, refl, is) in
        let w = walked search plans planned may_wait Is inside_closed 0 here settles ends.ranks node ends.there refl ends.way in
        let f = arrives search plans planned may_wait Is inside_closed 0 here settles ends.ranks (ends.there).cluster w in
        let still = subst (AllStill search) (sym w.is) (still_by (ends.there).cluster ends.nobody) in
        let home = still_walk search may_wait w.last f.within still f.more w.last f.there
        ((cluster_machine_law search).itself w.last) f.walk f.inside in
        let alike = alike_on search w.last f.there f.node (alike_back search f.there w.last home) f.alike in
        let to : Is f.node.cluster = f.is in
        let rest = still_rests search f.node.cluster (inside_closed.fit f.node.cluster to)
        (still_alike search w.last f.node alike f.within still) in
        trap.no_end to.0 to.1 to.4 to.2
        (subst (IsEnd plans) (sym to.3) (is_end search plans planned f.node.cluster rest))

  -- ---- all nodes

  all_leads : (i r : ℕ) (node : Node) (rank : Rank)
      → IsDone (plans r) rank ⊎ WhereverLeads plans node r (HasMove search nodes moves r i)
      → IsDone (plans r) rank ⊎ WhereverLeads plans node r (λ next. IsSettled search (IsOneOf nodes) next.cluster)
  all_leads i r node rank (inl done) = inl done
  all_leads i r node rank (inr leads) =
      inr (λ e new at hart turn.
      let move = leads e new at hart turn in (
        (move.settles).0,
        settles_in search (IsOneOf (move.to ∷ [])) (IsOneOf nodes)
            (λ c one. (
              move.j,
              move.to,
              move.there,
              ap (λ (n : Node). n.cluster) (only_one move.to one.1 one.0 one.2) ∙ one.3,
            ))
            (move.settles).0 new (move.settles).1,
      ))

  closed : IsClosedByContest search plans nodes
  closed = record {
    closed = λ i r node rank there has. all_leads i r node rank (graph.closed i r node rank there has);
    fit = graph.fit;
  }

  every : AreClosed search (IsOneOf nodes)
  every = list_closed search plans planned nodes closed

  every_patiently : ArePatientlyClosed search (IsOneOf nodes)
  every_patiently = record { fit = every.fit; next = λ r c rank is there none. every.next r c rank is there }

  -- ---- states from which patient turns within the patterns lead to where nobody can go on

  record Ends (a : State search) : Type 0 where
    ranks : List ℕ
    last : State search
    walk : Walk search plans planned ranks a last
    inside : AllInside (patient_machine search) ranks a last walk
    within : AllWithin search last.cluster
    still : AllStill search last.cluster

  ends_alike : (a b : State search) → Alike search a b → Ends a → Ends b
  ends_alike a b alike ends =
      let t = along (patient_machine search) (is_patient_machine search may_wait) ends.ranks a b ends.last alike ends.walk
      ends.inside in
      record {
        ranks = ends.ranks;
        last = t.last;
        walk = t.walk;
        inside = t.inside;
        within = λ r. (cluster_machine_law search).within r ends.last t.last t.alike (ends.within r);
        still = still_alike search ends.last t.last t.alike ends.within ends.still;
      }

  ends_before : (r : ℕ) (a b : State search) → IsWithin search a.cluster r → Turn r (search.harts r) a.cluster b.cluster
      → rests_at search a r ≡ false → Ends b → Ends a
  ends_before r a b within turn none ends = record {
    ranks = r ∷ ends.ranks;
    last = ends.last;
    walk = (b, (turn, none), ends.walk);
    inside = (within, ends.inside);
    within = ends.within;
    still = ends.still;
  }

  -- as turns by the plans
  ends_by : (a : State search) (had : Turns) → Ends a → EndsPatiently plans (node_of a.cluster had)
  ends_by a had ends =
      let g = by_plans search plans planned ends.ranks a ends.last had ends.walk in
      record {
        ranks = ends.ranks;
        there = g.0;
        way = g.1;
        nobody = subst (NobodyGoes plans) (sym g.2) (nobody_by (ends.last).cluster ends.still);
      }

  -- and the other way round, from a node
  ends_of : (a : State search) (i : ℕ) (node : Node) → slice_get nodes i ≡ Some node → node.cluster ≡ a.cluster
      → EndsPatiently plans node → Ends a
  ends_of a i node there same ends =
      let at : IsOneOf nodes a.cluster = (i, node, there, same) in
      let settles = node_settles search (IsOneOf nodes) a (every.fit a.cluster at) at in
      let w = walked search plans planned may_wait (IsOneOf nodes) every_patiently 0 a settles ends.ranks node ends.there (sym same)
      ends.way in
      let f = arrives search plans planned may_wait (IsOneOf nodes) every_patiently 0 a settles ends.ranks (ends.there).cluster w in
      record {
        ranks = ends.ranks;
        last = w.last;
        walk = w.walk;
        inside = w.inside;
        within = f.within;
        still = subst (AllStill search) (sym w.is) (still_by (ends.there).cluster ends.nobody);
      }

  -- ---- along a move

  -- where turns that nobody contests lead to what is alike the node, from which patient turns lead to an end
  settled_ends : (to : Node) → ((d : State search) → AreAlike search.wild (awake_cluster d.cluster) (awake_cluster to.cluster) → Ends d)
      → (n : ℕ) (c : State search) → Settles search (IsOneOf (to ∷ [])) n c.cluster → Ends c
  settled_ends to ends n c settles = by n c settles
    where
      alike_to : (c : State search) → (k : Cluster) → IsOneOf (to ∷ []) k
          → AreAlike search.wild (awake_cluster c.cluster) (awake_cluster k) → Ends c
      alike_to c k one alike =
          ends c (subst (λ z. AreAlike search.wild (awake_cluster c.cluster) (awake_cluster z))
          (sym (ap (λ (n : Node). n.cluster) (only_one to one.1 one.0 one.2) ∙ one.3)) alike)

      by : (n : ℕ) (c : State search) → Settles search (IsOneOf (to ∷ [])) n c.cluster → Ends c
      by zero c s = alike_to c (s.1).0 (s.1).1 (s.1).2
      by (suc n) c s = elim s.1 [
        | inl alike ↦ alike_to c alike.0 alike.1 alike.2
        | inr on ↦
            let r = on.0 in
            let rs : Ranks = λ s. s == r in
            let sure : AreSure search c.cluster rs =
            record {
              one = r;
              among = eq-eqb r r refl;
              only = λ s among. eqb-true s r among;
              rank = on.1;
              there = on.2;
              first = on.3;
              within = s.0 r;
              anyway = on.4;
            } in
            let g = (is_patient_machine search may_wait).goes rs r c sure (eq-eqb r r refl) in
            ends_before r c g.0 (s.0 r) ((g.1).0).0 (g.1).1 (by n g.0 (on.5 (g.0).cluster (g.1).0))
      ]

  module _ (r i j : ℕ) (from to : Node) (move : IsTrue (moves r i j)) (here : slice_get nodes i ≡ Some from)
      (there : slice_get nodes j ≡ Some to) (good : IsGood search from.cluster) (also : IsGood search to.cluster)
      (none : rests from.cluster r 0 ≡ false) where
    path : EndsPatiently plans to → EndsPatiently plans from
    path ends =
        let m = graph.leads r i j from to move here there in
        let first : State search = record { cluster = from.cluster; good = good } in
        let target : State search = record { cluster = to.cluster; good = also } in
        let turn = turn_of search plans planned r from m.new m.goes in
        let t = taken r (search.harts r) from.cluster (m.new).cluster turn in
        let within = (graph.fit i from here).within r in
        let new : State search =
        record { cluster = (m.new).cluster; good = good_after search r from.cluster (m.new).cluster t.rank t.there good within turn } in
        let its = ends_of target j to there refl ends in
        ends_by first from.had
        (ends_before r first new within turn (ap (rests from.cluster r) ((well.single).harts r) ∙ none)
        (settled_ends to (λ d alike. ends_alike target d (alike_back search d target alike) its) (m.settles).0 new (m.settles).1))

  -- ---- wherever a run leads

  module _ (settled : IsSettled search (IsOneOf nodes) start.cluster) (steps : List Step) (end : Cluster) (run : IsRun start.cluster steps end) (follow : FollowPlans plans start.had steps) where
    abbrev had : Turns
    had = had_after start.had steps

    abbrev last : Node
    last = node_of end had

    abbrev ranks : List ℕ
    ranks = map (λ (e : Step). e.rank) steps

    abbrev first : State search
    first = record { cluster = start.cluster; good = well.good }

    abbrev came_there : WalkedBy search plans planned ranks first end
    came_there = came search plans nodes start well settled closed ranks last (walk_of plans steps start.cluster end start.had run follow)

    -- no patient turns lead to an end
    abbrev NoneEnds : State search → Type 0
    NoneEnds a = Ends a → ⊥

    lasting : IsLasting (cluster_machine search) NoneEnds
    lasting = record {
      alike = λ a b alike none ends. none (ends_alike b a (alike_back search a b alike) ends);
      sure = λ rs r a b sure among turn none ends.
          none (ends_before r a b ((cluster_machine_law search).asks rs r a sure among) turn
          (sure_patient search may_wait rs r a sure among) ends);
      ready = λ r a b ready turn none ends.
          none (ends_before r a b ready.within turn (ready_patient search may_wait r a ready) ends);
    }

    finds_there : IsFound (cluster_machine search) (kept search (IsOneOf nodes)) NoneEnds came_there.last
    finds_there =
        finds search plans nodes start well settled closed ranks last
        (walk_of plans steps start.cluster end start.had run follow) NoneEnds lasting

    -- the run leads on to what is alike a node, and from there no turns lead to an end if none lead to one from the node
    module _ (never : NeverEnds plans (finds_there.is).1) where
      abbrev f : IsFound (cluster_machine search) (kept search (IsOneOf nodes)) NoneEnds came_there.last
      f = finds_there

      abbrev at : IsOneOf nodes f.node.cluster
      at = f.is

      abbrev gone : (there : Node) × GoesOnBy plans f.more (node_of came_there.last.cluster had) there × (there.cluster ≡ f.there.cluster)
      gone = by_all_plans search plans planned f.more came_there.last f.there had f.walk

      never_there : NeverEnds plans gone.0
      never_there e after ends =
          let to_there = walks_on search plans planned ranks f.more first came_there.last f.there came_there.walk f.walk in
          let w = walked_from search plans planned (IsOneOf nodes) every settled.0 first settled.1 after.0 (ranks ++ f.more) f.there
          to_there gone.0 e (sym gone.2) after.1 in
          let within = (found search (IsOneOf nodes) every (AnythingAt search) (anything_at_lasts search) settled.0 first w.last
          ((ranks ++ f.more) ++ after.0) settled.1
          (walks_on search plans planned (ranks ++ f.more) after.0 first f.there w.last to_there w.walk)).within in
          let rest = all_rest search plans planned w.last.cluster (end_at plans w.last.cluster e.cluster w.is ends) in
          let t = along (cluster_machine search) (cluster_machine_law search) after.0 f.there f.node w.last f.alike w.walk w.inside in
          let s = asleep search w.last within rest t.last t.alike in
          let all = after.0 ++ s.0 in
          let g = by_all_plans search plans planned all f.node s.1 (at.1).had
          (walks_on search plans planned after.0 s.0 f.node t.last s.1 t.walk s.2) in
          never g.0 (all, starts_at plans all (at.1).had f.node.cluster (at.1).cluster g.0 (sym at.3) g.1)
          (end_at plans (g.0).cluster (s.1).cluster g.2 (is_end search plans planned (s.1).cluster s.3))

      leads_there : (there : Node) × IsAfter plans last there × NeverEnds plans there
      leads_there =
          (gone.0, (f.more, starts_at plans f.more had came_there.last.cluster end gone.0 came_there.is gone.1), never_there)

    -- where patient turns lead from the node to an end, some do from where the run led, or it would be known that none do
    ends_there : HangsIfSendsWait plans last → EndsPatiently plans (finds_there.is).1 → ⊥
    ends_there hangs ends =
        let at : IsOneOf nodes finds_there.node.cluster = finds_there.is in
        finds_there.keeps
        (λ those. hangs.never (begins_at plans had came_there.last.cluster end came_there.is (ends_by came_there.last had those)))
        (ends_of finds_there.node at.0 at.1 at.2 at.3 ends)

    none : ((i : ℕ) (node : Node) → slice_get nodes i ≡ Some node → EndsPatiently plans node) → ¬ HangsIfSendsWait plans last
    none each hangs =
        let at : IsOneOf nodes finds_there.node.cluster = finds_there.is in ends_there hangs (each at.0 at.1 at.2)

    all : ((i : ℕ) (node : Node) → slice_get nodes i ≡ Some node → EndsPatiently plans node ⊎ NeverEnds plans node)
        → HangsIfSendsWait plans last
        → (there : Node) × IsAfter plans last there × NeverEnds plans there
    all each hangs =
        let at : IsOneOf nodes finds_there.node.cluster = finds_there.is in
        elim (each at.0 at.1 at.2) [
          | inl ends ↦ absurd (ends_there hangs ends)
          | inr never ↦ leads_there never
        ]

pub patient_law : PatientLaw
patient_law = record {
  never = λ search plans nodes moves inside start waits well graph trap i node is there good.
      never_inside search plans nodes moves start waits well graph (λ k. IsTrue (inside k)) trap i node is there good;
  path = λ search plans nodes moves start waits well graph r i j from to move here there good also none ends.
      path search plans nodes moves start waits well graph r i j from to move here there good also none ends;
  none = λ search plans nodes moves start waits well settled graph each steps end run follow hangs.
      none search plans nodes moves start waits well graph settled steps end run follow each hangs;
  all = λ search plans nodes moves start waits well settled graph each steps end run follow hangs.
      all search plans nodes moves start waits well graph settled steps end run follow each hangs;
}

nobody_at_end : (plans : Plans) (c : Cluster) → IsEnd plans c → NobodyGoes plans c
nobody_at_end plans c end r n rank there = elim (end r n rank there) [
  | inl stopped ↦ inl stopped
  | inr waits ↦ inr ((waits.0).on, waits.1)
]

pub end_law : EndLaw
end_law = record {
  nobody = nobody_at_end;
  at_end = λ plans here end. record { ranks = []; there = here; way = refl; nobody = nobody_at_end plans here.cluster end };
}

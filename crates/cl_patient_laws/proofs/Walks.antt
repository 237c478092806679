-- Patient turns by the plans, as turns of the machine.
use Rattle.std.proofs.Common.{◌≡◌, ◌∙◌, ℕ, refl, sym, ap, subst, true, false, List, [], ◌∷◌, ◌++◌}
use Rattle.cl_machine.specs.Cluster.{Cluster}
use Rattle.cl_order_laws.specs.Closed.{Node, Plans, Turns, one_more}
use Rattle.cl_order_laws.specs.Sure.{Goes}
use Rattle.cl_order_laws.proofs.Covered.{node_of}
use Rattle.cl_rest_laws.specs.Rests.{rests}
use Rattle.cl_schedule_laws.specs.Machines.{AllWithin as AllInside, GoesOn}
use Rattle.cl_schedule_laws.specs.Laws.{IsFound}
use Rattle.cl_schedule_laws.proofs.Walks.{snoc}
use Rattle.cl_reduction_laws.specs.Below.{Turn}
use Rattle.cl_reduction_laws.specs.Clusters.{Search, State}
use Rattle.cl_reduction_laws.specs.Settled.{Settles}
use Rattle.cl_reduction_laws.proofs.Good.{good_after}
use Rattle.cl_reduction_laws.proofs.Machine.{taken}
use Rattle.cl_contest_laws.proofs.Walks.{IsPlanned}
use Rattle.cl_patient_laws.specs.Patient.{GoesOnPatiently, GoesPatiently}
use Rattle.cl_patient_laws.proofs.Kept.{Anything, ArePatientlyClosed, found_patiently, patient_kept}
use Rattle.cl_patient_laws.proofs.Machine.{is_patient_machine, patient_machine}

module _ (search : Search) (plans : Plans) (planned : IsPlanned search plans) where
  abbrev pub Walk : List ℕ → State search → State search → Type 0
  Walk rs a b = GoesOn (patient_machine search) rs a b

  pub turn_of : (r : ℕ) (old new : Node) → Goes plans r old new → Turn r (search.harts r) old.cluster new.cluster
  turn_of r old new goes = record {
    step = goes.step;
    rank = goes.rank;
    hart = goes.hart ∙ planned r (old.had r);
    leads = goes.leads;
  }

  pub goes_of : (r : ℕ) (old new : Cluster) (had : Turns) → Turn r (search.harts r) old new
      → Goes plans r (node_of old had) (node_of new (one_more had r))
  goes_of r old new had turn = record {
    step = turn.step;
    rank = turn.rank;
    hart = turn.hart ∙ sym (planned r (had r));
    leads = turn.leads;
    had = refl;
  }

  pub rests_by : (r n : ℕ) (c : Cluster) → rests c r (search.harts r) ≡ false → rests c r (plans r n) ≡ false
  rests_by r n c none = ap (rests c r) (planned r n) ∙ none

  -- turns of the machine are turns by the plans
  pub by_plans : (rs : List ℕ) (a b : State search) (had : Turns) → Walk rs a b
      → (last : Node) × GoesOnPatiently plans rs (node_of a.cluster had) last × (last.cluster ≡ b.cluster)
  by_plans [] a b had walk = (node_of a.cluster had, refl, ap (λ (s : State search). s.cluster) (sym walk))
  by_plans (r ∷ rs) a b had walk =
      let mid = (walk.0).cluster in
      let g = by_plans rs walk.0 b (one_more had r) walk.2 in (
        g.0,
        (
          node_of mid (one_more had r),
          record {
            goes = goes_of r a.cluster mid had (walk.1).0;
            awaits_none = rests_by r (had r) a.cluster (walk.1).1;
          },
          g.1,
        ),
        g.2,
      )

  -- turns within the patterns that lead to this cluster
  pub record Walked (rs : List ℕ) (a : State search) (end : Cluster) : Type 0 where
    pub last : State search
    pub is : last.cluster ≡ end
    pub walk : Walk rs a last
    pub inside : AllInside (patient_machine search) rs a last walk

  module _ (may_wait : search.may_wait ≡ true) (Is : Cluster → Type 0) (nodes : ArePatientlyClosed search Is) (n : ℕ)
      (start : State search) (settles : Settles search Is n start.cluster) where
    walked_from : (rs ps : List ℕ) (at : State search) → Walk ps start at → (here there : Node) → at.cluster ≡ here.cluster
        → GoesOnPatiently plans rs here there
        → Walked rs at there.cluster
    walked_from [] ps at done here there same walk = record {
      last = at;
      is = same ∙ ap (λ (k : Node). k.cluster) (sym walk);
      walk = refl;
      inside = tt;
    }
    walked_from (r ∷ rs) ps at done here there same walk =
        let mid = (walk.0).cluster in
        let went = walk.1 in
        let turn = subst (λ c. Turn r (search.harts r) c mid) (sym same) (turn_of r here walk.0 went.goes) in
        let none : rests at.cluster r (search.harts r) ≡ false =
        ap (λ c. rests c r (search.harts r)) same ∙ ap (rests here.cluster r) (sym (planned r (here.had r))) ∙ went.awaits_none in
        let f = found_patiently search may_wait Is nodes n start at ps settles done in
        let t = taken r (search.harts r) at.cluster mid turn in
        let on : State search =
        record { cluster = mid; good = good_after search r at.cluster mid t.rank t.there at.good (f.within r) turn } in
        let more = (snoc (patient_machine search) (is_patient_machine search may_wait) ps r start at on done (turn, none)).walk in
        let w = walked_from rs (ps ++ r ∷ []) on more walk.0 there refl walk.2 in
        record { last = w.last; is = w.is; walk = (on, (turn, none), w.walk); inside = (f.within r, w.inside) }

    pub walked : (rs : List ℕ) (here there : Node) → start.cluster ≡ here.cluster → GoesOnPatiently plans rs here there
        → Walked rs start there.cluster
    walked rs here there same walk = walked_from rs [] start refl here there same walk

    -- from there patient turns lead on to a node
    pub arrives : (rs : List ℕ) (end : Cluster) → (w : Walked rs start end)
        → IsFound (patient_machine search) (patient_kept search Is) (Anything search) w.last
    arrives rs end w = found_patiently search may_wait Is nodes n start w.last rs settles w.walk

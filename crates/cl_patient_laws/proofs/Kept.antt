-- Lists of nodes that are closed under turns of ranks that don't rest.
use Rattle.std.proofs.Common.{◌≡◌, ℕ, subst, ◌⊎◌, inl, inr, true, false, Some}
use Rattle.std.specs.List.{slice_get}
use Rattle.cl_state.specs.Rank.{Rank}
use Rattle.cl_machine.specs.Cluster.{Cluster}
use Rattle.cl_rest_laws.specs.Rests.{rests}
use Rattle.cl_schedule_laws.specs.Laws.{HasFound, IsClosed, IsLasting, IsOnItsWay, Kept}
use Rattle.cl_schedule_laws.proofs.Schedules.{has_found}
use Rattle.cl_reduction_laws.specs.Below.{Turn}
use Rattle.cl_reduction_laws.specs.Clusters.{Search, State, cluster_machine}
use Rattle.cl_reduction_laws.specs.Settled.{IsFit, Settles}
use Rattle.cl_reduction_laws.proofs.Clusters.{cluster_machine_law}
use Rattle.cl_reduction_laws.proofs.Machine.{taken}
use Rattle.cl_contest_laws.proofs.Kept.{GoesOnSettled, asks, idle, kept, settles}
use Rattle.cl_contest_laws.proofs.Rest.{alike_back, rest_alike}
use Rattle.cl_patient_laws.proofs.Machine.{is_patient_machine, patient_machine}

-- clusters that are nodes of a list which no rank leaves that doesn't rest
pub record ArePatientlyClosed (search : Search) (Is : Cluster → Type 0) : Type 0 where
  pub fit : (c : Cluster) → Is c → IsFit search c
  pub next : (r : ℕ) (c : Cluster) (rank : Rank) → Is c → slice_get c.ranks r ≡ Some rank
      → rests c r (search.harts r) ≡ false → GoesOnSettled search Is c r rank

-- the patient machine's states that lead to nodes are those of the other one
abbrev pub patient_kept : (search : Search) → (Cluster → Type 0) → Kept (patient_machine search)
patient_kept search Is = record {
  IsNode = λ (a : State search). Is a.cluster;
  Settles = λ n (a : State search). Settles search Is n a.cluster;
}

-- where nothing is asked of the state
abbrev pub Anything : (search : Search) → State search → Type 0
Anything search a = Unit {0}

anything_lasts : (search : Search) → IsLasting (patient_machine search) (Anything search)
anything_lasts search = record {
  alike = λ a b alike holds. tt;
  sure = λ rs r a b sure among goes holds. tt;
  ready = λ r a b ready goes holds. tt;
}

module _ (search : Search) (may_wait : search.may_wait ≡ true) (Is : Cluster → Type 0) (nodes : ArePatientlyClosed search Is) where
  on_its_way : (n : ℕ) (a : State search) → IsOnItsWay (cluster_machine search) (kept search Is) n a
      → IsOnItsWay (patient_machine search) (patient_kept search Is) n a
  on_its_way n a (inl node) = inl node
  on_its_way n a (inr on) =
      inr (on.0, on.1, on.2, on.3, λ b finds. on.4 b finds.0, λ r b among goes. on.5 r b among goes.0)

  next : (r : ℕ) (a b : State search) → Is a.cluster
      → Turn r (search.harts r) a.cluster b.cluster × (rests a.cluster r (search.harts r) ≡ false)
      → (n : ℕ) × Settles search Is n b.cluster
  next r a b node goes =
      let t = taken r (search.harts r) a.cluster b.cluster goes.0 in
      elim (nodes.next r a.cluster t.rank node t.there goes.1) [
        | inl stopped ↦
            let k = rest_alike search r a b t.rank t.there ((nodes.fit a.cluster node).within r) (inl stopped) goes.0 in (
              0,
              (
                λ s. (cluster_machine_law search).within s a b k ((nodes.fit a.cluster node).within s),
                (a.cluster, node, alike_back search a b k),
              ),
            )
        | inr leads ↦ leads b.cluster goes.0
      ]

  closed : IsClosed (patient_machine search) (patient_kept search Is)
  closed = record {
    next = next;
    within = λ r a node. (nodes.fit a.cluster node).within r;
    room = λ a node. (nodes.fit a.cluster node).room;
    idle = λ r a b node light goes. idle search Is nodes.fit r a b node light goes.0;
    settles = λ n a settled. on_its_way n a (settles search Is nodes.fit n a settled);
    asks = λ n r a settled. asks search Is nodes.fit n r a settled;
  }

  -- wherever patient turns lead from a state that settles, more of them lead on to a node
  pub found_patiently : HasFound (patient_machine search) (patient_kept search Is) (Anything search)
  found_patiently =
      has_found (patient_machine search) (patient_kept search Is) (is_patient_machine search may_wait) closed (Anything search)
      (anything_lasts search)

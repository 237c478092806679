-- States at which nobody can go on.
use Rattle.std.proofs.Common.{◌≡◌, ◌∙◌, ℕ, sym, subst, ◌⊎◌, inl, inr, true, List, [], ◌∷◌, Some}
use Rattle.std.specs.List.{slice_get}
use Rattle.cl_state.specs.declared.asking.Ask.{Ask}
use Rattle.cl_state.specs.Asked.{asked}
use Rattle.cl_state.specs.Rank.{Rank}
use Rattle.cl_machine.specs.Cluster.{Cluster}
use Rattle.cl_order_laws.specs.Closed.{IsInVain}
use Rattle.cl_schedule_laws.specs.Machines.{AllWithin as AllInside, GoesOn}
use Rattle.cl_reduction_laws.specs.Below.{Turn}
use Rattle.cl_reduction_laws.specs.Clusters.{IsStill, IsWithin, Search, State}
use Rattle.cl_reduction_laws.specs.Settled.{AllWithin, FindsClaim, IsFit, IsThere}
use Rattle.cl_reduction_laws.proofs.Clusters.{cluster_machine_law}
use Rattle.cl_reduction_laws.proofs.Follows.{asks_live, asks_too, pair_from, waits_too}
use Rattle.cl_reduction_laws.proofs.Good.{Gone, gone, made_within}
use Rattle.cl_reduction_laws.proofs.Machine.{IsSame, same_alike, taken}
use Rattle.cl_contest_laws.proofs.Asleep.{vain_too}
use Rattle.cl_contest_laws.proofs.Ends.{stops_too}
use Rattle.cl_contest_laws.proofs.Rest.{Alike, AllRest, alike_back, alike_on, claims_or_vain, stopped_turn, waiting_turn}
use Rattle.cl_patient_laws.proofs.Machine.{is_patient_machine, patient_machine}

-- each rank's hart is stopped, or makes its call in vain
abbrev pub AllStill : Search → Cluster → Type 0
AllStill search c = (r : ℕ) (rank : Rank) → slice_get c.ranks r ≡ Some rank → IsStill c r rank (search.harts r)

module _ (search : Search) where
  -- so it is in each state that is alike
  pub still_alike : (a b : State search) → Alike search a b → AllWithin search a.cluster → AllStill search a.cluster
      → AllStill search b.cluster
  still_alike a b alike within still r y there =
      let f = pair_from search r a.cluster b.cluster alike y there in
      let x = f.0 in
      elim (still r x f.1) [
        | inl stopped ↦ inl (stops_too alike.0 x y f.2 (search.harts r) stopped)
        | inr waits ↦
            let sx = (a.good).stands r x f.1 in
            let sy = (b.good).stands r y there in
            inr (
              waits_too alike.0 (search.harts r) x y sx sy f.2 ∙ waits.0,
              subst (IsInVain b.cluster r) (sym (asks_too alike.0 (search.harts r) x y sx sy f.2))
                  (vain_too search a b alike r (asked x (search.harts r)) (within r x f.1).1
                  (asks_live search a r (search.harts r) x f.1) waits.1),
            )
      ]

  -- a turn of such a rank leads to what is alike
  still_goes : (r : ℕ) (c new : Cluster) (rank : Rank) → slice_get c.ranks r ≡ Some rank → IsStill c r rank (search.harts r)
      → Gone r (search.harts r) c new rank → IsSame c new
  still_goes r c new rank there (inl stopped) went = stopped_turn search r c new rank there stopped went
  still_goes r c new rank there (inr waits) went = waiting_turn search r c new rank there waits.0 waits.1 went

  still_turn : (r : ℕ) (a b : State search) (rank : Rank) → slice_get a.cluster.ranks r ≡ Some rank
      → IsWithin search a.cluster r → IsStill a.cluster r rank (search.harts r)
      → Turn r (search.harts r) a.cluster b.cluster
      → Alike search a b
  still_turn r a b rank there within still turn =
      same_alike search.wild a.cluster b.cluster (a.good).boxes
      (still_goes r a.cluster b.cluster rank there still
      (gone r (search.harts r) a.cluster b.cluster rank there
      (made_within search.patterns r (search.harts r) rank (within rank there).0) turn))

  module _ (may_wait : search.may_wait ≡ true) where
    -- and so do turns within the patterns, one behind the other, also from what is alike
    pub still_walk : (a : State search) → AllWithin search a.cluster → AllStill search a.cluster → (rs : List ℕ)
        → (c d : State search) → Alike search c a → (walk : GoesOn (patient_machine search) rs c d)
        → AllInside (patient_machine search) rs c d walk
        → Alike search d a
    still_walk a within still [] c d alike walk inside = subst (λ (x : State search). Alike search x a) (sym walk) alike
    still_walk a within still (r ∷ rs) c d alike walk inside =
        let f = (cluster_machine_law search).follows r c a walk.0 alike inside.0 (walk.1).0 in
        let t = taken r (search.harts r) a.cluster (f.0).cluster f.1 in
        let home = still_turn r a f.0 t.rank t.there (within r) (still r t.rank t.there) f.1 in
        still_walk a within still rs walk.0 d (alike_on search walk.0 f.0 a f.2 (alike_back search a f.0 home)) walk.2 inside.1

  -- what isn't there is neither claimed nor found
  none_there : (c : Cluster) (r : ℕ) (q : Ask) → IsInVain c r q → (FindsClaim c r q → ⊥) × (IsThere c r q → ⊥)
  none_there c r (Ask.Hub q) none = (λ found. claims_or_vain c r q none found, λ there. there none)
  none_there c r Ask.Plain none = absurd none
  none_there c r Ask.Local none = absurd none
  none_there c r Ask.Idle none = absurd none
  none_there c r Ask.Held none = (λ found. found, λ there. there)
  none_there c r (Ask.Ready link part bytes) none = absurd none
  none_there c r (Ask.Look link part) none = (λ found. found, λ there. there)
  none_there c r (Ask.Freed link part) none = (λ found. found, λ there. there)

  -- at a node from which all ranks may be let go all rest then
  pub still_rests : (c : Cluster) → IsFit search c → AllStill search c → AllRest search c
  still_rests c fit still r rank there = elim (still r rank there) [
    | inl stopped ↦ inl stopped
    | inr waits ↦ elim (fit.rests r rank there waits.0) [
      | inl vain ↦ inr vain
      | inr other ↦
          let no = none_there c r (asked rank (search.harts r)) waits.1 in
          elim other [ inl claim ↦ absurd (no.0 claim) | inr rest ↦ absurd (no.1 rest.1) ]
    ]
  ]

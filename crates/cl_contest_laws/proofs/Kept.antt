-- Clusters from which turns settle are closed, as states of the machine.
use Rattle.std.proofs.Common.{◌≡◌, ◌∙◌, ℕ, zero, suc, refl, sym, ap, subst, arith, ◌⊎◌, inl, inr, true, Some}
use Rattle.std.specs.Prelude.{◌==◌}
use Rattle.std.specs.List.{slice_get}
use Rattle.std.proofs.lemmas.Bool.{cases_Bool, eq-eqb, eqb-true}
use Rattle.rv_hart.specs.declared.state.Mode.{Mode}
use Rattle.rv_hart.specs.declared.state.Mode.TheVariants.{Running, Waiting, Ended, Trapped}
use Rattle.rv_hart.specs.declared.state.Wait.TheVariants.{Post, Again}
use Rattle.cl_calls.specs.declared.calls.Call.{Call}
use Rattle.cl_calls.specs.declared.calls.Call.TheVariants as call
use Rattle.cl_state.specs.Asked.{asked, asked_in, asked_poll, doing, doing_in, part_of}
use Rattle.cl_state.specs.Rank.{Rank}
use Rattle.cl_state_laws.specs.Vain.{IsStopped, mode_of, waits_on}
use Rattle.cl_machine.specs.Cluster.{Cluster}
use Rattle.cl_reduction_laws.specs.Below.{AreAlike}
use Rattle.cl_reduction_laws.specs.Below.{Turn}
use Rattle.cl_schedule_laws.specs.Machines.{IsMachine}
use Rattle.cl_order_laws.specs.Orders.{is_miss}
use Rattle.cl_schedule_laws.specs.Laws.{HasFound, IsClosed, IsLasting, IsNearer, IsOnItsWay, Kept}
use Rattle.cl_schedule_laws.proofs.Schedules.{has_found}
use Rattle.cl_reduction_laws.specs.Clusters.{Found, GoesAnyway, GoesFirst, IsWithin, Search, State, awake_cluster, cluster_machine, weight_in, weight_of}
use Rattle.cl_reduction_laws.specs.Settled.{AllWithin, FindsClaim, HasAlike, IsFit, IsSettled, Settles}
use Rattle.cl_reduction_laws.proofs.Clusters.{cluster_machine_law, first_misses}
use Rattle.cl_reduction_laws.proofs.First.{polls_on}
use Rattle.cl_reduction_laws.proofs.Machine.{taken}
use Rattle.cl_contest_laws.proofs.Good.{good_alike}
use Rattle.cl_contest_laws.proofs.Quiet.{light_goes}
use Rattle.cl_contest_laws.proofs.Rest.{alike_back, rest_alike}

-- the rank's hart is stopped, or wherever its turn leads settles
abbrev pub GoesOnSettled : Search → (Cluster → Type 0) → Cluster → ℕ → Rank → Type 0
GoesOnSettled search Is c r rank =
    IsStopped (mode_of rank (search.harts r))
    ⊎ ((new : Cluster) → Turn r (search.harts r) c new → IsSettled search Is new)

-- clusters that are nodes of a list
pub record AreClosed (search : Search) (Is : Cluster → Type 0) : Type 0 where
  pub fit : (c : Cluster) → Is c → IsFit search c
  pub next : (r : ℕ) (c : Cluster) (rank : Rank) → Is c → slice_get c.ranks r ≡ Some rank
      → GoesOnSettled search Is c r rank

-- a poll waits on
light_polls : (rank : Rank) (hart : ℕ) (m : Mode) → mode_of rank hart ≡ m → weight_in m ≡ 0
    → waits_on (doing rank.site (part_of rank hart)) ≡ true
light_polls rank hart (Waiting (Post post)) is light = polls_on rank hart post is
light_polls rank hart Running is light = absurd (omega (arith, light))
light_polls rank hart (Waiting Again) is light = absurd (omega (arith, light))
light_polls rank hart (Ended value) is light = absurd (omega (arith, light))
light_polls rank hart (Trapped cause pc) is light = absurd (omega (arith, light))

-- and claims nothing
light_claims_none : (c : Cluster) (r : ℕ) (rank : Rank) (hart : ℕ) → weight_in (mode_of rank hart) ≡ 0
    → FindsClaim c r (asked rank hart) → ⊥
unfolding asked doing
light_claims_none c r rank hart light found = go (mode_of rank hart) light found
  where
    polls : (k : Call) (post : ℕ) → FindsClaim c r (asked_poll k post) → ⊥
    polls (call.Ssend s) post found = found
    polls _ post found = found

    go : (m : Mode) → weight_in m ≡ 0
        → FindsClaim c r (asked_in rank.site rank.memory rank.requests rank.phases (doing_in m rank.site (part_of rank hart))) → ⊥
    go (Waiting (Post post)) light found = polls _ post found
    go Running light found = absurd (omega (arith, light))
    go (Waiting Again) light found = absurd (omega (arith, light))
    go (Ended value) light found = absurd (omega (arith, light))
    go (Trapped cause pc) light found = absurd (omega (arith, light))

-- where only the node itself is sought
abbrev pub Anything : (search : Search) → State search → Type 0
Anything search a = Unit {0}

pub anything_lasts : (search : Search) → IsLasting (cluster_machine search) (Anything search)
anything_lasts search = record {
  alike = λ a b alike holds. tt;
  sure = λ rs r a b sure among goes holds. tt;
  ready = λ r a b ready goes holds. tt;
}

module _ (search : Search) (Is : Cluster → Type 0) where
  abbrev pub kept : Kept (cluster_machine search)
  kept = record {
    IsNode = λ (a : State search). Is a.cluster;
    Settles = λ n (a : State search). Settles search Is n a.cluster;
  }

  module _ (fits : (c : Cluster) → Is c → IsFit search c) where
    abbrev hart : ℕ → ℕ
    hart = search.harts

    is : IsMachine (cluster_machine search)
    is = cluster_machine_law search

    -- the state of a node that is alike
    pub node_of : (a : State search) → HasAlike search Is a.cluster
        → (node : State search) × Is node.cluster
        × AreAlike search.wild (awake_cluster a.cluster) (awake_cluster node.cluster)
    node_of a h = (
      record { cluster = h.0; good = good_alike search a.cluster h.0 h.2 a.good (fits h.0 h.1).stands },
      h.1,
      h.2,
    )

    rests_still : (r : ℕ) (a b : State search) → Is a.cluster → AreAlike search.wild (awake_cluster a.cluster) (awake_cluster b.cluster)
        → Settles search Is 0 b.cluster
    rests_still r a b node k = (
      λ s. is.within s a b k ((fits a.cluster node).within s),
      (a.cluster, node, alike_back search a b k),
    )

    pub idle : (r : ℕ) (a b : State search) → Is a.cluster → weight_of (slice_get a.cluster.ranks r) (hart r) ≡ 0
        → Turn r (hart r) a.cluster b.cluster
        → AreAlike search.wild (awake_cluster a.cluster) (awake_cluster b.cluster)
    idle r a b node light turn =
        let t = taken r (hart r) a.cluster b.cluster turn in
        let fit = fits a.cluster node in
        let none = sym (ap (λ o. weight_of o (hart r)) t.there) ∙ light in
        elim (fit.rests r t.rank t.there (light_polls t.rank (hart r) (mode_of t.rank (hart r)) refl none)) [
          | inl waits ↦ rest_alike search r a b t.rank t.there (fit.within r) (inr waits) turn
          | inr found ↦ elim found [
            | inl claim ↦ absurd (light_claims_none a.cluster r t.rank (hart r) none claim)
            | inr rest ↦ (let e = sym rest.0 ∙ light_goes a.cluster r (hart r) t.rank t.there none in absurd (cc))
          ]
        ]

    -- ---- what settles

    -- turns of a rank that find what they ask for lead to what settles
    abbrev Follows : ℕ → Cluster → ℕ → Type 0
    Follows n c r = (new : Cluster) → Found r (hart r) c new → Settles search Is n new

    -- and any of its turns does, or is in vain
    nearer : (n : ℕ) (a b : State search) (r : ℕ) (rank : Rank) → slice_get a.cluster.ranks r ≡ Some rank
        → GoesFirst search a.cluster r rank → Follows n a.cluster r → Turn r (hart r) a.cluster b.cluster
        → IsNearer (cluster_machine search) kept (suc n) b
        ⊎ AreAlike search.wild (awake_cluster a.cluster) (awake_cluster b.cluster)
    nearer n a b r rank there first on turn = elim (cases_Bool (is_miss turn.step.kind)) [
      | inl missed ↦ inr (first_misses search r a b rank there first turn missed)
      | inr found ↦ inl (n, omega arith, on b.cluster (turn, found))
    ]

    goes : (n : ℕ) (a : State search) → AllWithin search a.cluster → (r : ℕ) (rank : Rank)
        → slice_get a.cluster.ranks r ≡ Some rank → GoesFirst search a.cluster r rank → GoesAnyway search a.cluster r
        → Follows n a.cluster r
        → IsOnItsWay (cluster_machine search) kept (suc n) a
    goes n a within r rank there first anyway on =
        inr (
          λ s. s == r,
          r,
          record {
            one = r;
            among = eq-eqb r r refl;
            only = λ s among. eqb-true s r among;
            rank = rank;
            there = there;
            first = first;
            within = within r;
            anyway = anyway;
          },
          eq-eqb r r refl,
          λ b found. (n, omega arith, on b.cluster found),
          λ s b among turn.
              nearer n a b r rank there first on
              (subst (λ k. Turn k (hart k) a.cluster b.cluster) (eqb-true s r among) turn),
        )

    pub settles : (n : ℕ) (a : State search) → Settles search Is n a.cluster → IsOnItsWay (cluster_machine search) kept n a
    settles zero a s = inl (node_of a s.1)
    settles (suc n) a s = elim s.1 [
      | inl alike ↦ inl (node_of a alike)
      | inr on ↦ goes n a s.0 on.0 on.1 on.2 on.3 on.4 on.5
    ]

    pub asks : (n r : ℕ) (a : State search) → Settles search Is n a.cluster → IsWithin search a.cluster r
    asks zero r a s = s.0 r
    asks (suc n) r a s = s.0 r

  module _ (nodes : AreClosed search Is) where
    next : (r : ℕ) (a b : State search) → Is a.cluster → Turn r (search.harts r) a.cluster b.cluster
        → (n : ℕ) × Settles search Is n b.cluster
    next r a b node turn =
        let t = taken r (search.harts r) a.cluster b.cluster turn in
        elim (nodes.next r a.cluster t.rank node t.there) [
          | inl stopped ↦ (
            0,
            rests_still nodes.fit r a b node
                (rest_alike search r a b t.rank t.there ((nodes.fit a.cluster node).within r) (inl stopped) turn),
          )
          | inr leads ↦ leads b.cluster turn
        ]

    pub closed : IsClosed (cluster_machine search) kept
    closed = record {
      next = next;
      within = λ r a node. (nodes.fit a.cluster node).within r;
      room = λ a node. (nodes.fit a.cluster node).room;
      idle = idle nodes.fit;
      settles = settles nodes.fit;
      asks = asks nodes.fit;
    }

    -- what lasts holds of the node that is found if it holds where the run led
    pub found : (P : State search → Type 0) → IsLasting (cluster_machine search) P
        → HasFound (cluster_machine search) kept P
    found P lasts = has_found (cluster_machine search) kept (cluster_machine_law search) closed P lasts

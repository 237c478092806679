-- Who goes on beside ranks that are stuck.
use Rattle.std.proofs.Common.{ℕ, zero, suc, ◌≡◌, ◌<◌, ◌≤◌, ◌⊎◌, ◌∙◌, List, [], ◌∷◌, length, Bool, true, false, Option, None, Some, slice_get, get_or, inl, inr, refl, sym, subst, ap, arith, mod-eq_of_lt, mod-lt}
use Rattle.std.specs.Prelude.{◌%◌, slice_index}
use Rattle.std.proofs.lemmas.Bool.{cases_Bool, cases_eq, cases_lt}
use Rattle.std.proofs.lemmas.Option.{same_Some, slice_get_within}
use Rattle.rv_hart.specs.State.{State}
use Rattle.rv_hart.specs.declared.state.Mode.{Mode}
use Rattle.rv_hart.specs.declared.state.Mode.TheVariants.{Running, Waiting, Ended, Trapped}
use Rattle.mp_types.specs.declared.replies.Reply.{Reply}
use Rattle.mp_types.specs.declared.replies.Reply.TheVariants as reply
use Rattle.cl_calls.specs.declared.sites.Site.{Site}
use Rattle.cl_state.specs.declared.asking.Ask.{Ask}
use Rattle.cl_state.specs.Asked.{asked, doing, no_hart, part_of}
use Rattle.cl_state.specs.Rank.{Rank}
use Rattle.cl_state_laws.specs.Vain.{IsPatient, IsStopped, IsWaiting, mode_of, waits_on}
use Rattle.cl_machine.specs.Boxes.{Box, IsEmpty, box_number}
use Rattle.cl_machine.specs.Cluster.{Cluster}
use Rattle.cl_machine.specs.Journal.{reply_in}
use Rattle.cl_deadlock_laws.specs.Stuck.{AreStuck, AsksInVain, is_among}
use Rattle.cl_order_laws.specs.Closed.{IsEnd, IsInVain, WaitsInVain}
use Rattle.cl_moves.specs.Ends.{IsResting}
use Rattle.cl_moves.specs.Standing.{by_order}
use Rattle.rvmc_explore.specs.Beside.{AnotherGoesOn}

-- ---- whether a hart rests

abbrev Or : Type 0 → Type 0
Or P = P ⊎ ¬ P

or_true : (b : Bool) → Or (b ≡ true)
or_true true = inl refl
or_true false = inr (λ is. cc)

or_both : (P Q : Type 0) → Or P → Or Q → Or (P × Q)
or_both P Q (inl p) (inl q) = inl (p, q)
or_both P Q (inl p) (inr isnt) = inr (λ both. isnt both.1)
or_both P Q (inr isnt) q = inr (λ both. isnt both.0)

or_either : (P Q : Type 0) → Or P → Or Q → Or (P ⊎ Q)
or_either P Q (inl p) q = inl (inl p)
or_either P Q (inr isnt) (inl q) = inl (inr q)
or_either P Q (inr isnt) (inr neither) = inr (λ one. elim one [ inl p ↦ isnt p | inr q ↦ neither q ])

or_stopped : (m : Mode) → Or (IsStopped m)
or_stopped Running = inr (λ is. is)
or_stopped (Waiting wait) = inr (λ is. is)
or_stopped (Ended code) = inl tt
or_stopped (Trapped cause pc) = inl tt

or_waiting : (m : Mode) → Or (IsWaiting m)
or_waiting Running = inr (λ is. is)
or_waiting (Waiting wait) = inl tt
or_waiting (Ended code) = inr (λ is. is)
or_waiting (Trapped cause pc) = inr (λ is. is)

or_patient : (rank : Rank) (hart : ℕ) → Or (IsPatient rank hart)
or_patient rank hart = of (or_waiting (mode_of rank hart)) (or_true (waits_on (doing rank.site (part_of rank hart))))
  where
    of : Or (IsWaiting (mode_of rank hart)) → Or (waits_on (doing rank.site (part_of rank hart)) ≡ true)
        → Or (IsPatient rank hart)
    of (inl waits) (inl on) = inl (record { waits = waits; on = on })
    of (inl waits) (inr off) = inr (λ p. off p.on)
    of (inr isnt) on = inr (λ p. isnt p.waits)

or_not_yet : (a : Reply) → Or (a ≡ reply.NotYet)
or_not_yet (reply.Code code) = inr (λ is. cc)
or_not_yet (reply.Posted post done) = inr (λ is. cc)
or_not_yet (reply.Got message) = inr (λ is. cc)
or_not_yet reply.NotYet = inl refl
or_not_yet reply.Done = inr (λ is. cc)
or_not_yet (reply.Seen envelope) = inr (λ is. cc)
or_not_yet (reply.Held number envelope) = inr (λ is. cc)
or_not_yet (reply.AllGot gots) = inr (λ is. cc)
or_not_yet (reply.Link link) = inr (λ is. cc)
or_not_yet (reply.Cut parts size) = inr (λ is. cc)

-- of whatever is there, if something is
or_if_there : {A : Type 0} (P : A → Type 0) (o : Option A) → ((a : A) → Or (P a)) → Or ((a : A) → o ≡ Some a → P a)
or_if_there P None each = inl (λ a is. absurd (cc))
or_if_there P (Some x) each = elim (each x) [
  | inl holds ↦ inl (λ a is. subst P (same_Some x a is) holds)
  | inr isnt ↦ inr (λ all. isnt (all x refl))
]

or_empty : (box : Box) → Or (IsEmpty box)
or_empty box = elim (cases_eq (length box.made) box.taken) [ inl is ↦ inl is | inr other ↦ inr other ]

or_full : (box : Box) → Or (¬ IsEmpty box)
or_full box = elim (or_empty box) [ inl is ↦ inr (λ full. full is) | inr full ↦ inl full ]

or_in_vain : (cluster : Cluster) (r : ℕ) (ask : Ask) → Or (IsInVain cluster r ask)
or_in_vain cluster r (Ask.Hub request) = or_not_yet (reply_in cluster.journal r request)
or_in_vain cluster r (Ask.Look link part) =
    or_if_there IsEmpty (slice_get cluster.boxes (box_number link part)) or_empty
or_in_vain cluster r (Ask.Freed link part) =
    or_if_there (λ box. ¬ IsEmpty box) (slice_get cluster.boxes (box_number link part)) or_full
or_in_vain cluster r Ask.Held = inl tt
or_in_vain cluster r Ask.Plain = inr (λ is. is)
or_in_vain cluster r Ask.Local = inr (λ is. is)
or_in_vain cluster r Ask.Idle = inr (λ is. is)
or_in_vain cluster r (Ask.Ready link part bytes) = inr (λ is. is)

or_resting : (cluster : Cluster) (r : ℕ) (rank : Rank) (hart : ℕ) → Or (IsResting cluster r rank hart)
or_resting cluster r rank hart =
    or_either (IsStopped (mode_of rank hart)) (WaitsInVain cluster r rank hart) (or_stopped (mode_of rank hart))
    (or_both (IsPatient rank hart) (IsInVain cluster r (asked rank hart)) (or_patient rank hart)
    (or_in_vain cluster r (asked rank hart)))

-- ---- whether somebody goes on

-- below a bound all are so, or one isn't
all_or_one : (P : ℕ → Type 0) → ((n : ℕ) → Or (P n)) → (k : ℕ) → ((n : ℕ) → n < k → P n) ⊎ ((n : ℕ) × ¬ P n)
all_or_one P each zero = inl (λ n low. absurd (omega (arith, low)))
all_or_one P each (suc k) = of (all_or_one P each k) (each k)
  where
    of : ((n : ℕ) → n < k → P n) ⊎ ((n : ℕ) × ¬ P n) → Or (P k) → ((n : ℕ) → n < suc k → P n) ⊎ ((n : ℕ) × ¬ P n)
    of (inr one) here = inr one
    of (inl all) (inr isnt) = inr (k, isnt)
    of (inl all) (inl here) = inl (λ n low. elim (cases_eq k n) [
      | inl same ↦ subst P same here
      | inr other ↦ all n (omega (arith, low, other))
    ])

-- the harts of an order come round again
same_slot : (order : List ℕ) (r n : ℕ) → by_order order r (n % length order) ≡ by_order order r n
same_slot [] r n = refl
same_slot (hart ∷ harts) r n =
    ap (slice_index (hart ∷ harts))
    (mod-eq_of_lt (mod-lt n (let some : 0 < length (hart ∷ harts) = omega arith in some)))

module _ (cluster : Cluster) (r : ℕ) (rank : Rank) where
  abbrev Rests : List ℕ → ℕ → Type 0
  Rests order n = IsResting cluster r rank (by_order order r n)

  -- where the harts of an order rest once, they rest
  all_slots : (order : List ℕ) → ((n : ℕ) → n < suc (length order) → Rests order n) → (n : ℕ) → Rests order n
  all_slots [] all n = all zero (omega arith)
  all_slots (hart ∷ harts) all n =
      let some : 0 < length (hart ∷ harts) = omega arith in
      let low = mod-lt n some in
      subst (IsResting cluster r rank) (same_slot (hart ∷ harts) r n)
      (all (n % length (hart ∷ harts)) (omega (arith, low)))

  -- each hart of the rank that takes turns rests, or one doesn't
  rank_rests : (order : List ℕ) → ((n : ℕ) → Rests order n) ⊎ ((n : ℕ) × ¬ Rests order n)
  rank_rests order =
      elim (all_or_one (Rests order) (λ n. or_resting cluster r rank (by_order order r n)) (suc (length order))) [
        | inl all ↦ inl (all_slots order all)
        | inr one ↦ inr one
      ]

-- a rank has a hart that goes on
record Goes (order : List ℕ) (cluster : Cluster) : Type 0 where
  r : ℕ
  rank : Rank
  slot : ℕ
  there : slice_get cluster.ranks r ≡ Some rank
  goes : ¬ IsResting cluster r rank (by_order order r slot)

module _ (order : List ℕ) (cluster : Cluster) where
  -- the harts of each rank below this number rest
  abbrev Below : ℕ → Type 0
  Below k =
      (r n : ℕ) (rank : Rank) → r < k → slice_get cluster.ranks r ≡ Some rank
      → IsResting cluster r rank (by_order order r n)

  one_rank_more : (k : ℕ) (o : Option Rank) → slice_get cluster.ranks k ≡ o → Below k → Below (suc k) ⊎ Goes order cluster
  one_rank_more k None is below = inl (λ r n rank low there. elim (cases_eq k r) [
    | inl same ↦
        let at : slice_get cluster.ranks k ≡ Some rank =
        subst (λ j. slice_get cluster.ranks j ≡ Some rank) (sym same) there in
        let no : None ≡ Some rank = sym is ∙ at in absurd (cc)
    | inr other ↦ below r n rank (omega (arith, low, other)) there
  ])
  one_rank_more k (Some own) is below = elim (rank_rests cluster k own order) [
    | inl rests ↦ inl (λ r n rank low there. elim (cases_eq k r) [
      | inl same ↦
          let its : own ≡ rank =
          same_Some own rank (sym is ∙ subst (λ j. slice_get cluster.ranks j ≡ Some rank) (sym same) there) in
          subst (λ j. IsResting cluster j rank (by_order order j n)) same
          (subst (λ (x : Rank). IsResting cluster k x (by_order order k n)) its (rests n))
      | inr other ↦ below r n rank (omega (arith, low, other)) there
    ])
    | inr one ↦ inr (record { r = k; rank = own; slot = one.0; there = is; goes = one.1 })
  ]

  below_or_goes : (k : ℕ) → Below k ⊎ Goes order cluster
  below_or_goes zero = inl (λ r n rank low there. absurd (omega (arith, low)))
  below_or_goes (suc k) = elim (below_or_goes k) [
    | inl below ↦ one_rank_more k (slice_get cluster.ranks k) refl below
    | inr goes ↦ inr goes
  ]

  end_or_goes : IsEnd (by_order order) cluster ⊎ Goes order cluster
  end_or_goes = elim (below_or_goes (length cluster.ranks)) [
    | inl below ↦ inl (λ r n rank there. below r n rank (slice_get_within cluster.ranks r rank there) there)
    | inr goes ↦ inr goes
  ]

-- ---- who is stuck rests

vain_now : (ranks : List ℕ) (cluster : Cluster) (r : ℕ) (site : Site) (ask : Ask) → AsksInVain ranks cluster r site ask
    → IsInVain cluster r ask
unfolding reply_in
vain_now ranks cluster r site (Ask.Hub request) vain = vain.0
vain_now ranks cluster r site (Ask.Look link part) vain = vain.0
vain_now ranks cluster r site (Ask.Freed link part) vain = vain.0
vain_now ranks cluster r site Ask.Held vain = tt
vain_now ranks cluster r site Ask.Plain vain = vain
vain_now ranks cluster r site Ask.Local vain = vain
vain_now ranks cluster r site Ask.Idle vain = vain
vain_now ranks cluster r site (Ask.Ready link part bytes) vain = vain

-- a hart that isn't there is stopped
past : (harts : List State) (hart : ℕ) → length harts ≤ hart → IsStopped (get_or harts hart no_hart).mode
past [] hart all = tt
past (x ∷ harts) zero all = absurd (omega (arith, all))
past (x ∷ harts) (suc hart) all = past harts hart (omega (arith, all))

stuck_rests : (ranks : List ℕ) (cluster : Cluster) (r : ℕ) (rank : Rank) (hart : ℕ) → AreStuck ranks cluster
    → is_among ranks r ≡ true → slice_get cluster.ranks r ≡ Some rank → IsResting cluster r rank hart
stuck_rests ranks cluster r rank hart stuck among there = of (cases_lt hart (length rank.harts))
  where
    of : (hart < length rank.harts) ⊎ (length rank.harts ≤ hart) → IsResting cluster r rank hart
    of (inl low) = elim (stuck r rank hart among there low) [
      | inl stopped ↦ inl stopped
      | inr held ↦ inr (held.patient, vain_now ranks cluster r rank.site (asked rank hart) held.in_vain)
    ]
    of (inr all) = inl (past rank.harts hart all)

-- where these ranks are stuck and it is no end, another one goes on
pub another_goes_on : (order ranks : List ℕ) (cluster : Cluster) → AreStuck ranks cluster → ¬ IsEnd (by_order order) cluster
    → AnotherGoesOn order ranks cluster
another_goes_on order ranks cluster stuck no_end = elim (end_or_goes order cluster) [
  | inl end ↦ absurd (no_end end)
  | inr one ↦ elim (cases_Bool (is_among ranks one.r)) [
    | inl among ↦
        absurd (one.goes (stuck_rests ranks cluster one.r one.rank (by_order order one.r one.slot) stuck among one.there))
    | inr other ↦
        record {
          r = one.r;
          rank = one.rank;
          slot = one.slot;
          there = one.there;
          another = other;
          not_stopped = λ stopped. one.goes (inl stopped);
          not_in_vain = λ waits. one.goes (inr waits);
        }
  ]
]

-- A verdict names those of its ranks that have a hart that waits.
use Rattle.std.proofs.Common.{◌≡◌, ◌∙◌, ◌<◌, ◌≤◌, ◌⊎◌, ◌==◌, ◌&&◌, ℕ, zero, suc, refl, sym, ap, subst, inl, inr, arith}
use Rattle.std.proofs.Common.{Bool, true, false, not, List, [], ◌∷◌, length, get_or, Option, Some, None}
use Rattle.std.specs.Prelude.{IsTrue, T}
use Rattle.std.specs.List.{list_any, slice_get}
use Rattle.std.proofs.lemmas.Bool.{and_from, and_parts, cases_lt, eq-eqb, eqb-true, or_cases, or_left}
use Rattle.std.proofs.lemmas.List.{get_or_past}
use Rattle.std.proofs.lemmas.List.Folds.{list_any_at}
use Rattle.std.proofs.lemmas.Map.Views.{any-filter_same}
use Rattle.rv_hart.specs.State.{State, is_stopped}
use Rattle.rv_hart.specs.declared.state.Mode.{Mode}
use Rattle.rv_hart.specs.declared.state.Mode.TheVariants.{Running, Waiting, Ended, Trapped}
use Rattle.rv_image_types.specs.declared.images.ImageParts.{ImageParts}
use Rattle.cl_state.specs.Asked.{no_hart}
use Rattle.cl_state.specs.Rank.{Rank}
use Rattle.cl_state_laws.specs.Vain.{IsStopped, IsWaiting, mode_of}
use Rattle.cl_machine.specs.Cluster.{Cluster}
use Rattle.cl_replay.specs.States.{ClusterStandsFor}
use Rattle.cl_replay.specs.declared.states.ClusterState.{ClusterState}
use Rattle.cl_deadlock.specs.Why.{IsVerdictOf}
use Rattle.cl_deadlock_laws.specs.Stuck.{AreStuck, IsStuckHart, SomeWaits, is_among}
use Rattle.rvmc_inspect.specs.Why.{is_live, is_live_at, live_ranks}
use Rattle.rvmc_inspect.proofs.Live.{is_live_in, live_over}
use Rattle.rvmc_tool_laws.specs.Answers.{NamesWhoWaits}

-- ---- a hart that waits has not stopped

abbrev goes_on : State → Bool
goes_on hart = not (is_stopped hart.mode)

waits_on : (m : Mode) → IsWaiting m → not (is_stopped m) ≡ true
waits_on Running waits = refl
waits_on (Waiting w) waits = refl
waits_on (Ended code) waits = absurd waits
waits_on (Trapped cause at) waits = absurd waits

-- ---- one of several that has not stopped

-- a list with one that passes a test has a place at which it stands
place_of : (p : State → Bool) (d : State) (xs : List State) → list_any p xs ≡ true
    → (i : ℕ) × (i < length xs) × (p (get_or xs i d) ≡ true)
place_of p d [] any = absurd (cc)
place_of p d (x ∷ xs) any = elim (or_cases (p x) (list_any p xs) any) [
  | inl here ↦ (zero, omega arith, here)
  | inr rest ↦ let v = place_of p d xs rest in (suc v.0, omega (arith, v.1), v.2)
]

-- in whose place past the end no hart waits
within : (harts : List State) (i : ℕ) → IsWaiting (get_or harts i no_hart).mode → i < length harts
within harts i waits = by (cases_lt i (length harts))
  where
    by : (i < length harts) ⊎ (length harts ≤ i) → i < length harts
    by (inl below) = below
    by (inr past) = absurd (subst (λ (hart : State). IsWaiting hart.mode) (get_or_past harts i no_hart past) waits)

live_by : (rank : Rank) (hart : ℕ) → IsWaiting (mode_of rank hart) → is_live rank ≡ true
live_by rank hart waits =
    list_any_at goes_on rank.harts hart no_hart (within rank.harts hart waits)
    (waits_on (get_or rank.harts hart no_hart).mode waits)

-- ---- the ranks of a deadlock

module _ (ranks : List ℕ) (cluster : Cluster) (stuck : AreStuck ranks cluster) where
  -- of ranks that are stuck a hart that has not stopped waits
  waiting : (r : ℕ) (rank : Rank) → IsTrue (is_among ranks r) → slice_get cluster.ranks r ≡ Some rank → is_live rank ≡ true
      → SomeWaits (r ∷ []) cluster
  waiting r rank among there live = by (stuck r rank at.0 among there at.1)
    where
      at : (i : ℕ) × (i < length rank.harts) × (goes_on (get_or rank.harts i no_hart) ≡ true)
      at = place_of goes_on no_hart rank.harts live

      by : IsStopped (mode_of rank at.0) ⊎ IsStuckHart ranks cluster r rank at.0 → SomeWaits (r ∷ []) cluster
      by (inl stopped) = absurd (stops (is_stopped (mode_of rank at.0)) stopped at.2)
        where
          stops : (b : Bool) → T b → not b ≡ true → ⊥
          stops true t never = absurd (cc)
          stops false t never = t
      by (inr held) =
          record {
            r = r;
            rank = rank;
            hart = at.0;
            among = or_left (r == r) false (eq-eqb r r refl);
            there = there;
            waits = (held.patient).waits;
          }

  waits_in : (r : ℕ) (rank : Option Rank) → slice_get cluster.ranks r ≡ rank → IsTrue (is_among ranks r)
      → is_live_in rank ≡ true
      → SomeWaits (r ∷ []) cluster
  waits_in r None there among live = absurd (cc)
  waits_in r (Some rank) there among live = waiting r rank among there live

  lives_in : (r : ℕ) → SomeWaits (r ∷ []) cluster → is_live_in (slice_get cluster.ranks r) ≡ true
  lives_in r some = elim (or_cases (r == some.r) false some.among) [
    | inl same ↦
        ap (λ (k : ℕ). is_live_in (slice_get cluster.ranks k)) (eqb-true r some.r same) ∙ ap is_live_in some.there
        ∙ live_by some.rank some.hart some.waits
    | inr none ↦ absurd (cc)
  ]

pub names_who_waits : (image : ImageParts) (state : ClusterState) (cluster : Cluster) (found : Option (List ℕ))
    → ClusterStandsFor image state cluster → IsVerdictOf cluster found
    → NamesWhoWaits state cluster found
names_who_waits image state cluster None stands verdict = tt
names_who_waits image state cluster (Some ranks) stands verdict = λ r. (there r, back r)
  where
    is_named : ℕ → Bool
    is_named k = is_live_at (slice_get state.ranks.items k)

    over : (r : ℕ) → is_named r ≡ is_live_in (slice_get cluster.ranks r)
    over = live_over state.ranks.items cluster.ranks stands.ranks_are

    among : (r : ℕ) → is_among (live_ranks state ranks) r ≡ (is_named r && is_among ranks r)
    among r = any-filter_same (λ k. k == r) is_named (is_named r) (λ k same. ap is_named (eqb-true k r same)) ranks

    there : (r : ℕ) → IsTrue (is_among (live_ranks state ranks) r) → IsTrue (is_among ranks r) × SomeWaits (r ∷ []) cluster
    there r named =
        let both = and_parts (is_named r) (is_among ranks r) (sym (among r) ∙ named) in
        (both.1, waits_in ranks cluster verdict.stuck r (slice_get cluster.ranks r) refl both.1 (sym (over r) ∙ both.0))

    back : (r : ℕ) → IsTrue (is_among ranks r) × SomeWaits (r ∷ []) cluster → IsTrue (is_among (live_ranks state ranks) r)
    back r both =
        among r
        ∙ and_from (is_named r) (is_among ranks r) (over r ∙ lives_in ranks cluster verdict.stuck r both.1) both.0

-- Who is stuck.
use Rattle.std.specs.Prelude.{ℕ, ◌≡◌, ◌<◌, ◌==◌, IsSomeAnd, IsTrue, List, [], ◌∷◌, length, slice_get, Bool, true, false}
use Rattle.std.specs.Prelude.{Option, Some, None, Result, Ok, Err, IfOk}
use Rattle.std.specs.Option.{option_map}
use Rattle.std.proofs.Common.{refl, sym, ap, subst, ◌∙◌, inl, inr, arith}
use Rattle.std.proofs.lemmas.Bool.{eq-eqb, eqb-true, or_cases, or_left}
use Rattle.std.proofs.lemmas.Option.{same_Some, slice_get_within}
use Rattle.mp_types.specs.declared.requests.Request.TheVariants.{All}
use Rattle.mp_wait_laws.specs.Waits.{OnlyOf}
use Rattle.cl_state.specs.declared.asking.Ask.{Ask}
use Rattle.cl_state.specs.Rank.{Rank}
use Rattle.cl_state_laws.specs.Vain.{IsStopped, mode_of}
use Rattle.cl_machine.specs.Cluster.{Cluster}
use Rattle.cl_deadlock_laws.specs.Laws.{IsStuckBeside}
use Rattle.cl_deadlock_laws.specs.Stuck.{AreStuck, AsksInVain, IsStuckHart, SomeWaits, is_among}
use Rattle.cl_deadlock.specs.Why.{AreRanks, HasStuck, IsVerdictOf}
use Rattle.test_cluster.specs.Stuck.{HasEnded, WaitsForOne}

-- what follows for a result
pub of_ok : {T E : Type 0} (r : Result T E) (P Q : T → Type 0) → ((x : T) → P x → Q x) → IfOk r P → IfOk r Q
of_ok (Ok x) P Q f h = f x h
of_ok (Err e) P Q f h = tt

-- ---- a verdict

pub told : {V : Type 0} (found : Option V) (items : V → List ℕ) (cluster : Cluster) (ranks : List ℕ)
    → AreRanks ranks cluster → AreStuck ranks cluster → SomeWaits ranks cluster
    → IsVerdictOf cluster (option_map items found)
    → IsSomeAnd found (λ v. OnlyOf (is_among (items v)) (is_among ranks))
told None items cluster ranks are stuck waits is = absurd (is ranks are stuck waits)
told (Some v) items cluster ranks are stuck waits is = is.most ranks are stuck

-- ---- one rank

-- the rank's only hart is held
held : (among : List ℕ) (cluster : Cluster) (r : ℕ) → WaitsForOne among cluster r → IsStuckBeside among cluster r
held among cluster r w rank hart there inside =
    let same : w.rank ≡ rank = same_Some w.rank rank (sym w.there ∙ there) in
    let count : length rank.harts ≡ 1 = ap (λ (x : Rank). length x.harts) (sym same) ∙ w.alone in
    let first : 0 ≡ hart = omega (arith, inside, count) in
    let in_vain : AsksInVain among cluster r w.rank.site (Ask.Hub (All w.posts))
    = (w.not_yet, (w.place, w.post, w.listed, w.unready, w.up_to)) in
    let stuck : IsStuckHart among cluster r w.rank 0 = record {
      patient = w.patient;
      in_vain = subst (AsksInVain among cluster r w.rank.site) (sym w.asks) in_vain;
    } in
    inr (subst (λ x. IsStuckHart among cluster r x hart) same
    (subst (λ h. IsStuckHart among cluster r w.rank h) first stuck))

pub is_held : (among : List ℕ) (cluster : Cluster) (r : ℕ) → WaitsForOne among cluster r → (stuck : Bool)
    → (stuck ≡ false → ¬ IsStuckBeside among cluster r) → stuck ≡ true
is_held among cluster r waits true free = refl
is_held among cluster r waits false free = absurd (free refl (held among cluster r waits))

-- ---- the most ranks that are stuck together

-- a company of one
one_of : (r k : ℕ) → IsTrue (is_among (r ∷ []) k) → r ≡ k
one_of r k is = elim (or_cases (r == k) false is) [ inl same ↦ eqb-true r k same | inr none ↦ absurd (cc) ]

pub is_among_them : (cluster : Cluster) (r : ℕ) (ranks : List ℕ) → HasEnded cluster r → HasStuck ranks cluster
    → IsTrue (is_among ranks r)
is_among_them cluster r ranks ended most = most (r ∷ []) are stuck r (or_left (r == r) false (eq-eqb r r refl))
  where
    are : AreRanks (r ∷ []) cluster
    are k is = let inside = slice_get_within cluster.ranks r _ ended.there in
        let same = one_of r k is in omega (arith, inside, same)

    stuck : AreStuck (r ∷ []) cluster
    stuck k rank hart is there inside =
        let same : r ≡ k = one_of r k is in
        let own : ended.rank ≡ rank = same_Some ended.rank rank
        (sym ended.there ∙ ap (slice_get cluster.ranks) same ∙ there) in
        inl (subst (λ x. IsStopped (mode_of x hart)) own
        (ended.stopped hart (subst (λ (x : Rank). hart < length x.harts) (sym own) inside)))

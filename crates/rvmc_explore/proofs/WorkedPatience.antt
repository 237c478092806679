-- The worked rows of nodes that hang.
use Rattle.std.specs.Prelude.{ℕ, zero, suc, ◌≡◌, ◌==◌, ◌&&◌, ◌||◌, List, [], ◌∷◌, not, slice_get, Bool, true, false, Some}
use Rattle.std.specs.List.{list_all}
use Rattle.std.proofs.Common.{refl, sym, ap, ◌∙◌, subst}
use Rattle.std.proofs.lemmas.Option.{same_Some}
use Rattle.cl_rests.specs.Sets.{in_set}
use Rattle.cl_explore.specs.Covering.{HasLead, HasLeadBy}
use Rattle.cl_explore.specs.Ends.{Findings}
use Rattle.cl_explore.specs.declared.leads.Lead.{Lead}
use Rattle.rvmc_explore.specs.InnerPatient.{is_patient}
use Rattle.rvmc_explore.specs.Patient.{IsPatientlyLed, PatientlyGoesIn, PatientlyGoesTo, noted_at}
use Rattle.rvmc_explore.specs.Searched.{GoesIn}
use Rattle.rvmc_explore.specs.WorkedPatient.{IsGraph, WorkedPatient, moved, poll_leads, poll_resting, twin_leads, twin_resting}

-- ---- nodes that no such move leaves

both : (a b : Bool) → (a && b) ≡ true → (a ≡ true) × (b ≡ true)
both true b is = (refl, is)
both false b is = absurd (cc)

all_at : {A : Type 0} (p : A → Bool) (xs : List A) (k : ℕ) (x : A) → list_all p xs ≡ true → slice_get xs k ≡ Some x → p x ≡ true
all_at p [] k x all at = absurd (cc)
all_at p (y ∷ xs) zero x all at = ap p (sym (same_Some y x at)) ∙ (both (p y) (list_all p xs) all).0
all_at p (y ∷ xs) (suc k) x all at = all_at p xs k x (both (p y) (list_all p xs) all).1 at

abbrev stays : List ℕ → (ℕ → Bool) → Lead → Bool
stays resting inside lead = not (inside lead.from && is_patient resting lead) || inside lead.to

leads_inside : (a b c : Bool) → (not (a && b) || c) ≡ true → a ≡ true → b ≡ true → c ≡ true
leads_inside true true c is one other = is
leads_inside true false c is one other = absurd (cc)
leads_inside false b c is one other = absurd (cc)

is_off : (a : Bool) → not a ≡ true → a ≡ true → ⊥
is_off true is on = absurd (cc)
is_off false is on = absurd (cc)

-- if no such move leads out of these nodes and no end is among them
trapped : (found : Findings) (inside : ℕ → Bool) → list_all (stays found.resting inside) found.leads ≡ true
    → list_all (λ e. not (inside e)) found.ends ≡ true → (n i : ℕ) → inside i ≡ true → PatientlyGoesIn found n i → ⊥
trapped found inside each none zero i is goes =
    is_off (inside i) (all_at (λ e. not (inside e)) found.ends goes.0 i none goes.1) is
trapped found inside each none (suc n) i is goes =
    let led = goes.1 in
    let by = led.1 in
    let lead = by.1 in
    let here : inside lead.from ≡ true = subst (λ k. inside k ≡ true) (sym by.4) is in
    let at : noted_at found.resting lead.from led.0 ≡ false =
    subst (λ k. noted_at found.resting k led.0 ≡ false) (sym by.4) led.2 in
    let awake : noted_at found.resting lead.from lead.rank ≡ false =
    subst (λ k. noted_at found.resting lead.from k ≡ false) (sym by.3) at in
    let there : inside lead.to ≡ true =
    leads_inside (inside lead.from) (is_patient found.resting lead) (inside lead.to)
    (all_at (stays found.resting inside) found.leads by.0 lead each by.2) here (ap not awake) in
    trapped found inside each none n goes.0 (subst (λ k. inside k ≡ true) by.5 there) goes.2

-- ---- the rows

module _ (found : Findings) (leads : List Lead) (resting : List ℕ) (graph : IsGraph found leads resting) where
  has : (i j : ℕ) → HasLead leads i j → HasLead found.leads i j
  has i j led = subst (λ (ls : List Lead). HasLead ls i j) (sym graph.leads_are) led

  led_by : (r i j : ℕ) → HasLeadBy leads r i j → noted_at resting i r ≡ false → IsPatientlyLed found i j
  led_by r i j led awake = (
    r,
    subst (λ (ls : List Lead). HasLeadBy ls r i j) (sym graph.leads_are) led,
    subst (λ (sets : List ℕ). noted_at sets i r ≡ false) (sym graph.resting_are) awake,
  )

  at_end : (k : ℕ) × (slice_get found.ends k ≡ Some 4)
  at_end = (0, ap (λ (es : List ℕ). slice_get es 0) graph.ends_are)

  no_way : (inside : ℕ → Bool) → list_all (stays resting inside) leads ≡ true → inside 4 ≡ false → (i : ℕ) → inside i ≡ true
      → PatientlyGoesTo found i → ⊥
  no_way inside each out i is goes =
      trapped found inside
      (subst (λ (ls : List Lead). list_all (stays found.resting inside) ls ≡ true) (sym graph.leads_are)
      (subst (λ (sets : List ℕ). list_all (stays sets inside) leads ≡ true) (sym graph.resting_are) each))
      (subst (λ (es : List ℕ). list_all (λ e. not (inside e)) es ≡ true) (sym graph.ends_are)
      (ap (λ b. not b && true) out)) goes.0 i is goes.1

-- nodes 0 and 1
abbrev early : ℕ → Bool
early i = (i == 0) || (i == 1)

poll_from_1 : (found : Findings) → IsGraph found poll_leads poll_resting → GoesIn found.leads found.ends 3 1
poll_from_1 found graph =
    let step = has found poll_leads poll_resting graph in (
      2,
      step 1 2 (2, moved 0 1 2, refl, refl, refl),
      (
        3,
        step 2 3 (4, moved 1 2 3, refl, refl, refl),
        (4, step 3 4 (5, moved 1 3 4, refl, refl, refl), at_end found poll_leads poll_resting graph),
      ),
    )

pub worked : WorkedPatient
unfolding in_set
worked = record {
  before = λ found graph. record {
    goes = (4, (1, has found poll_leads poll_resting graph 0 1 (0, moved 0 0 1, refl, refl, refl), poll_from_1 found graph));
    impatient = no_way found poll_leads poll_resting graph early refl refl 0 refl;
  };
  behind = λ found graph. record {
    goes = (3, poll_from_1 found graph);
    impatient = no_way found poll_leads poll_resting graph early refl refl 1 refl;
  };
  sent = λ found graph.
      let by = led_by found poll_leads poll_resting graph in (
        2,
        (
          3,
          by 1 2 3 (4, moved 1 2 3, refl, refl, refl, refl) refl,
          (4, by 1 3 4 (5, moved 1 3 4, refl, refl, refl, refl) refl, at_end found poll_leads poll_resting graph),
        ),
      );
  twin = λ found graph.
      let by = led_by found twin_leads twin_resting graph in (
        4,
        (
          1,
          by 0 0 1 (0, moved 0 0 1, refl, refl, refl, refl) refl,
          (
            2,
            by 1 1 2 (3, moved 1 1 2, refl, refl, refl, refl) refl,
            (
              3,
              by 0 2 3 (4, moved 0 2 3, refl, refl, refl, refl) refl,
              (4, by 1 3 4 (5, moved 1 3 4, refl, refl, refl, refl) refl, at_end found twin_leads twin_resting graph),
            ),
          ),
        ),
      );
}

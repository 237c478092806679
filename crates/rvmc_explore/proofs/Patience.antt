-- Which nodes lead to an end by moves of ranks that don't rest.
use Rattle.std.specs.Prelude.{ℕ, zero, suc, ◌<◌, ◌≡◌, ◌⊎◌, List, [], ◌∷◌, cond, filter, length, not, slice_get, Bool, true, false, Option, Some, None}
use Rattle.std.proofs.Common.{refl, sym, ap, ◌∙◌, subst, arith, inl, inr}
use Rattle.std.proofs.lemmas.Option.{same_Some, slice_get_within}
use Rattle.cl_machine.proofs.Lists.{filter-keeps, filter-skips}
use Rattle.rv_image_types.specs.declared.images.ImageParts.{ImageParts}
use Rattle.cl_order_laws.specs.Closed.{Node}
use Rattle.cl_explore.specs.Covering.{HasLead, HasLeadBy}
use Rattle.cl_explore.specs.Ends.{ExploredFrom, Findings}
use Rattle.cl_explore.specs.declared.leads.Lead.{Lead}
use Rattle.rvmc_explore.specs.Endless.{AreComplete}
use Rattle.rvmc_explore.specs.InnerPatient.{ArePatient, LeadInside, TellsHanging, is_patient}
use Rattle.rvmc_explore.specs.Marks.{TellsMarkedAlone}
use Rattle.rvmc_explore.specs.Patient.{PatientlyGoesIn, noted_at}
use Rattle.rvmc_explore.specs.Searched.{AreSound, GoesIn}

-- ---- moves that are left out

-- an element of this list of which this holds
abbrev IsOneWith : (Lead → Bool) → List Lead → Lead → Type 0
IsOneWith p leads lead = (n : ℕ) × (slice_get leads n ≡ Some lead) × (p lead ≡ true)

was_there : (p : Lead → Bool) (leads : List Lead) (k : ℕ) (lead : Lead) → slice_get (filter p leads) k ≡ Some lead
    → IsOneWith p leads lead
was_there p [] k lead at = absurd (cc)
was_there p (x ∷ xs) k lead at = of (λ n here. was_there p xs n lead here) (p x) refl k at
  where
    of : ((n : ℕ) → slice_get (filter p xs) n ≡ Some lead → IsOneWith p xs lead) → (b : Bool) → p x ≡ b → (n : ℕ)
        → slice_get (cond b (x ∷ filter p xs) (filter p xs)) n ≡ Some lead → IsOneWith p (x ∷ xs) lead
    of below true is zero here =
        let same : x ≡ lead = same_Some x lead here in (0, here, ap p (sym same) ∙ is)
    of below true is (suc n) here = let w = below n here in (suc w.0, w.1, w.2)
    of below false is n here = let w = below n here in (suc w.0, w.1, w.2)

abbrev IsOneOf : List Lead → Lead → Type 0
IsOneOf leads lead = (k : ℕ) × (slice_get leads k ≡ Some lead)

still_there : (p : Lead → Bool) (leads : List Lead) (n : ℕ) (lead : Lead) → slice_get leads n ≡ Some lead → p lead ≡ true
    → IsOneOf (filter p leads) lead
still_there p [] n lead at is = absurd (cc)
still_there p (x ∷ xs) zero lead at is =
    let same : x ≡ lead = same_Some x lead at in
    let keeps : p x ≡ true = ap p same ∙ is in
    (0, ap (λ ys. slice_get ys 0) (filter-keeps p x xs keeps) ∙ at)
still_there p (x ∷ xs) (suc n) lead at is = of (still_there p xs n lead at is) (p x) refl
  where
    of : IsOneOf (filter p xs) lead → (b : Bool) → p x ≡ b → IsOneOf (filter p (x ∷ xs)) lead
    of w true keeps = (suc w.0, ap (λ ys. slice_get ys (suc w.0)) (filter-keeps p x xs keeps) ∙ w.1)
    of w false skips = (w.0, ap (λ ys. slice_get ys w.0) (filter-skips p x xs skips) ∙ w.1)

off : (b : Bool) → not b ≡ true → b ≡ false
off true is = absurd (cc)
off false is = refl

pub are_patient : (found : Findings) (leads : List Lead) → leads ≡ filter (is_patient found.resting) found.leads
    → ArePatient found leads
are_patient found leads same = subst (ArePatient found) (sym same) (λ r i j. (
  λ led.
      let w = was_there (is_patient found.resting) found.leads led.0 led.1 led.2 in
      let first : noted_at found.resting led.1.from led.1.rank ≡ false =
      off (noted_at found.resting led.1.from led.1.rank) w.2 in
      let there : noted_at found.resting i led.1.rank ≡ false =
      subst (λ n. noted_at found.resting n led.1.rank ≡ false) led.4 first in (
        (w.0, led.1, w.1, led.3, led.4, led.5),
        subst (λ n. noted_at found.resting i n ≡ false) led.3 there,
      ),
  λ both.
      let led = both.0 in
      let there : noted_at found.resting i led.1.rank ≡ false =
      subst (λ n. noted_at found.resting i n ≡ false) (sym led.3) both.1 in
      let first : noted_at found.resting led.1.from led.1.rank ≡ false =
      subst (λ n. noted_at found.resting n led.1.rank ≡ false) (sym led.4) there in
      let w = still_there (is_patient found.resting) found.leads led.0 led.1 led.2 (ap not first) in
      (w.0, led.1, w.1, led.3, led.4, led.5),
))

-- ---- moves of some rank

some_rank : (leads : List Lead) (i j : ℕ) → HasLead leads i j → (r : ℕ) × HasLeadBy leads r i j
some_rank leads i j led = (led.1.rank, (led.0, led.1, led.2, refl, led.3, led.4))

any_rank : (leads : List Lead) (r i j : ℕ) → HasLeadBy leads r i j → HasLead leads i j
any_rank leads r i j led = (led.0, led.1, led.2, led.4, led.5)

patiently : (found : Findings) (leads : List Lead) → ArePatient found leads → (n i : ℕ) → GoesIn leads found.ends n i
    → PatientlyGoesIn found n i
patiently found leads are zero i goes = goes
patiently found leads are (suc n) i goes =
    let by = some_rank leads i goes.0 goes.1 in
    let led = (are by.0 i goes.0).0 by.1 in
    (goes.0, (by.0, led.0, led.1), patiently found leads are n goes.0 goes.2)

by_those : (found : Findings) (leads : List Lead) → ArePatient found leads → (n i : ℕ) → PatientlyGoesIn found n i
    → GoesIn leads found.ends n i
by_those found leads are zero i goes = goes
by_those found leads are (suc n) i goes =
    let led = goes.1 in
    let back = (are led.0 i goes.0).1 (led.1, led.2) in
    (goes.0, any_rank leads led.0 i goes.0 back, by_those found leads are n goes.0 goes.2)

-- they lead to nodes that are kept, as all moves do
inside_too : (found : Findings) (leads : List Lead) → ArePatient found leads → LeadInside found → (i j : ℕ)
    → HasLead leads i j → j < length found.kept
inside_too found leads are inside i j led =
    let by = some_rank leads i j led in
    let was = (are by.0 i j).0 by.1 in
    inside i j (any_rank found.leads by.0 i j was.0)

-- ---- marks

-- where moves lead to nodes that have marks, complete marks are set at each node that leads to a target
is_set : (leads : List Lead) (targets : List ℕ) (marks : List Bool)
    → ((i j : ℕ) → HasLead leads i j → j < length marks) → AreComplete leads targets marks → (n i : ℕ)
    → i < length marks → GoesIn leads targets n i → slice_get marks i ≡ Some true
is_set leads targets marks inside complete zero i low goes = complete.at goes.0 i goes.1 low
is_set leads targets marks inside complete (suc n) i low goes =
    let next = is_set leads targets marks inside complete n goes.0 (inside i goes.0 goes.1) goes.2 in
    complete.before i goes.0 goes.1 next low

either_mark : (marks : List Bool) (i : ℕ) → i < length marks
    → (slice_get marks i ≡ Some true) ⊎ (slice_get marks i ≡ Some false)
either_mark [] i low = absurd (omega (arith, low))
either_mark (true ∷ marks) zero low = inl refl
either_mark (false ∷ marks) zero low = inr refl
either_mark (m ∷ marks) (suc i) low = either_mark marks i (omega (arith, low))

not_both : (mark : Option Bool) → mark ≡ Some false → mark ≡ Some true → ⊥
not_both mark off on = absurd (cc)

-- marks of the nodes that lead to an end, by all moves and by those of ranks that don't rest
pub record AreMarksOf (found : Findings) (leads : List Lead) (marks : List Bool) : Type 0 where
  pub many : length marks ≡ length found.kept
  pub sound : AreSound leads found.ends marks
  pub complete : AreComplete leads found.ends marks

pub tells : (found : Findings) (leads : List Lead) (all some : List Bool) (told : Option ℕ) → LeadInside found
    → ArePatient found leads → AreMarksOf found found.leads all → AreMarksOf found leads some
    → TellsMarkedAlone all some told → TellsHanging found told
tells found leads all some None inside are these those none = λ i low.
    let here : i < length all = omega (arith, low, these.many) in
    elim (either_mark all i here) [
      | inl set ↦
          let goes = those.sound i (none i here set) in inl (goes.0, patiently found leads are goes.0 i goes.1)
      | inr unset ↦ inr (λ goes. not_both (slice_get all i) unset (is_set found.leads found.ends all
          (λ n j led. let low = inside n j led in omega (arith, low, these.many)) these.complete goes.0 i here goes.1))
    ]
tells found leads all some (Some i) inside are these those alone =
    let here = slice_get_within all i true alone.0 in (
      omega (arith, here, these.many),
      record {
        goes = these.sound i alone.0;
        impatient = λ goes. alone.1 (is_set leads found.ends some
            (λ n j led. let low = inside_too found leads are inside n j led in omega (arith, low, those.many))
            those.complete goes.0 i (omega (arith, here, these.many, those.many))
            (by_those found leads are goes.0 i goes.1));
      },
    )

-- ---- what was searched

-- its moves led to nodes that are kept
pub lead_inside : (image : ImageParts) (order : List ℕ) (start : Node) (found : Findings)
    → ExploredFrom image order start found → LeadInside found
lead_inside image order start found explored = λ i j led.
    let v = explored.leads led.0 led.1 led.2 in
    let low : led.1.to < length explored.nodes = slice_get_within explored.nodes led.1.to v.1 v.3 in
    let here : led.1.to < length found.kept = omega (arith, low, explored.are.many) in
    subst (λ n. n < length found.kept) led.4 here

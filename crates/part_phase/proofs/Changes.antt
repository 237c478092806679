-- A rank's phases, of which one is changed.
use Rattle.std.proofs.Common.{◌≡◌, ℕ, zero, suc, List, [], ◌∷◌, set, get_or, Option, Some, None, refl, ap, ◌∙◌}
use Rattle.std.specs.Prelude.{slice_get}
use Rattle.part_phase.specs.declared.phases.Phase.{Phase}
use Rattle.part_phase.specs.declared.phases.Phase.TheVariants.{Apart, Sending, Receiving}
use Rattle.part_phase.specs.declared.receiving.RecvPhase.{RecvPhase}
use Rattle.part_phase.specs.declared.sending.SendPhase.{SendPhase}
use Rattle.part_phase.specs.Phases.{changed_at, on_sending, on_receiving, sending_at, receiving_at}

-- to set a side to what a change makes of it is that change
pub set_changed : (phases : List Phase) (link : ℕ) (change : Phase → Phase) →
    set phases link (change (get_or phases link Apart)) ≡ changed_at link change phases
set_changed [] link change = refl
set_changed (p ∷ ps) zero change = refl
set_changed (p ∷ ps) (suc link) change = ap (λ l. p ∷ l) (set_changed ps link change)

pub set_is : (phases now : List Phase) (link : ℕ) (change : Phase → Phase) (new old : Phase) →
    now ≡ set phases link new → new ≡ change old → old ≡ get_or phases link Apart →
    now ≡ changed_at link change phases
set_is phases now link change new old put made from =
    put ∙ (ap (set phases link) (made ∙ ap change from) ∙ set_changed phases link change)

-- what is told of a link that isn't there is what is told of one that joins two other ranks
pub told_at : {T : Type 0} (tells : Option Phase → T) → tells (Some Apart) ≡ tells None → (phases : List Phase)
    (link : ℕ) (phase : Phase) → phase ≡ get_or phases link Apart → tells (Some phase) ≡ tells (slice_get phases link)
told_at tells same [] link phase from = ap (λ p. tells (Some p)) from ∙ same
told_at tells same (p ∷ ps) zero phase from = ap (λ p. tells (Some p)) from
told_at tells same (p ∷ ps) (suc link) phase from = told_at tells same ps link phase from

-- to put in what a change makes of a side is that change
pub sending_changed : (phases : List Phase) (link : ℕ) (change : SendPhase → SendPhase) →
    changed_at link (on_sending (λ _. change (sending_at phases link))) phases ≡
    changed_at link (on_sending change) phases
sending_changed [] link change = refl
sending_changed (Apart ∷ ps) zero change = refl
sending_changed (Sending p ∷ ps) zero change = refl
sending_changed (Receiving p ∷ ps) zero change = refl
sending_changed (p ∷ ps) (suc link) change = ap (λ l. p ∷ l) (sending_changed ps link change)

pub receiving_changed : (phases : List Phase) (link : ℕ) (change : RecvPhase → RecvPhase) →
    changed_at link (on_receiving (λ _. change (receiving_at phases link))) phases ≡
    changed_at link (on_receiving change) phases
receiving_changed [] link change = refl
receiving_changed (Apart ∷ ps) zero change = refl
receiving_changed (Sending p ∷ ps) zero change = refl
receiving_changed (Receiving p ∷ ps) zero change = refl
receiving_changed (p ∷ ps) (suc link) change = ap (λ l. p ∷ l) (receiving_changed ps link change)

-- so is what a call makes of a side, once it is put in
pub sending_is : (phases now : List Phase) (link : ℕ) (change : SendPhase → SendPhase) (new old : SendPhase) →
    now ≡ changed_at link (on_sending (λ _. new)) phases → new ≡ change old → old ≡ sending_at phases link →
    now ≡ changed_at link (on_sending change) phases
sending_is phases now link change new old put made from =
    put ∙ (ap (λ p. changed_at link (on_sending (λ _. p)) phases) (made ∙ ap change from) ∙
    sending_changed phases link change)

pub receiving_is : (phases now : List Phase) (link : ℕ) (change : RecvPhase → RecvPhase) (new old : RecvPhase) →
    now ≡ changed_at link (on_receiving (λ _. new)) phases → new ≡ change old → old ≡ receiving_at phases link →
    now ≡ changed_at link (on_receiving change) phases
receiving_is phases now link change new old put made from =
    put ∙ (ap (λ p. changed_at link (on_receiving (λ _. p)) phases) (made ∙ ap change from) ∙
    receiving_changed phases link change)

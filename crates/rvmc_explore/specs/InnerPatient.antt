-- Moves of ranks that don't rest, while a node is looked for that hangs.
use Rattle.std.specs.Prelude.{ℕ, ◌≡◌, ◌<◌, ◌⊎◌, ◌↔◌, Bool, false, not, List, length, Option, Some, None}
use Rattle.cl_explore.specs.Covering.{HasLead, HasLeadBy}
use Rattle.cl_explore.specs.Ends.{Findings}
use Rattle.cl_explore.specs.declared.leads.Lead.{Lead}
use Rattle.rvmc_explore.specs.Patient.{Hangs, PatientlyGoesTo, noted_at, rests_at}
use Rattle.rvmc_explore.specs.Searched.{GoesTo}

-- the node that is told hangs; and where none is told, each leads to an end by such moves, or by none
abbrev pub TellsHanging : Findings → Option ℕ → Type 0
TellsHanging found None =
    (i : ℕ) → i < length found.kept → PatientlyGoesTo found i ⊎ (GoesTo found.leads found.ends i → ⊥)
TellsHanging found (Some i) = (i < length found.kept) × Hangs found i

-- each move led to a node that is kept
abbrev pub LeadInside : Findings → Type 0
LeadInside found = (i j : ℕ) → HasLead found.leads i j → j < length found.kept

-- ---- the moves that are left

-- the rank of a move doesn't rest where it moved
abbrev pub is_patient : List ℕ → Lead → Bool
is_patient resting lead = not (noted_at resting lead.from lead.rank)

-- these are just such moves
abbrev pub ArePatient : Findings → List Lead → Type 0
ArePatient found leads =
    (r i j : ℕ) → HasLeadBy leads r i j ↔ (HasLeadBy found.leads r i j × (rests_at found i r ≡ false))

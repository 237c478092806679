-- Which nodes of a search lead to an end although ranks that rest wait there, and which hang.
use Rattle.std.specs.Prelude.{ℕ, zero, suc, ◌≡◌, Bool, false, List, Option, Some, None, slice_get}
use Rattle.cl_rests.specs.Sets.{in_set}
use Rattle.cl_explore.specs.Covering.{HasLeadBy}
use Rattle.cl_explore.specs.Ends.{Findings}
use Rattle.rvmc_explore.specs.Searched.{GoesTo}

-- ---- who rests

abbrev pub is_in : Option ℕ → ℕ → Bool
is_in None r = false
is_in (Some set) r = in_set set r

abbrev pub noted_at : List ℕ → ℕ → ℕ → Bool
noted_at resting i r = is_in (slice_get resting i) r

-- rank r rests at the node of this number, as was noted where its moves were made
abbrev pub rests_at : Findings → ℕ → ℕ → Bool
rests_at found i r = noted_at found.resting i r

-- ---- where ranks lead that don't rest

-- a move led from the node of the one number to that of the other, of a rank that doesn't rest at the one
abbrev pub IsPatientlyLed : Findings → ℕ → ℕ → Type 0
IsPatientlyLed found i j = (r : ℕ) × HasLeadBy found.leads r i j × (rests_at found i r ≡ false)

-- by so many such moves the node of this number leads to an end
abbrev pub PatientlyGoesIn : Findings → ℕ → ℕ → Type 0
PatientlyGoesIn found zero i = (k : ℕ) × (slice_get found.ends k ≡ Some i)
PatientlyGoesIn found (suc n) i = (j : ℕ) × IsPatientlyLed found i j × PatientlyGoesIn found n j

abbrev pub PatientlyGoesTo : Findings → ℕ → Type 0
PatientlyGoesTo found i = (n : ℕ) × PatientlyGoesIn found n i

-- some moves lead from the node of this number to an end, but none of ranks that don't rest where they move
pub record Hangs (found : Findings) (i : ℕ) : Type 0 where
  pub goes : GoesTo found.leads found.ends i
  pub impatient : PatientlyGoesTo found i → ⊥

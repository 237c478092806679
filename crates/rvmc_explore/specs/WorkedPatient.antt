-- Worked rows of nodes that hang, and of nodes that don't.
use Rattle.std.specs.Prelude.{ℕ, ◌≡◌, List, [], ◌∷◌}
use Rattle.cl_explore.specs.Ends.{Findings}
use Rattle.cl_explore.specs.declared.leads.Lead.{Lead}
use Rattle.rvmc_explore.specs.Patient.{Hangs, PatientlyGoesTo}

-- rank r moved from node i to node j
abbrev pub moved : ℕ → ℕ → ℕ → Lead
moved r i j = record { rank = r; from = i; to = j }

-- rank 0 sends tag 1, and then tag 2; rank 1 polls for tag 2, and then receives both. At node 0 nothing was sent, at node 1 tag 1, at
-- node 2 both, at node 3 rank 1 has found tag 2, and node 4 is the end. Rank 0 rests until rank 1 receives
abbrev pub poll_leads : List Lead
poll_leads = moved 0 0 1 ∷ moved 1 0 0 ∷ moved 0 1 2 ∷ moved 1 1 1 ∷ moved 1 2 3 ∷ moved 1 3 4 ∷ []

-- the set of rank 0 has the number 1
abbrev pub poll_resting : List ℕ
poll_resting = 0 ∷ 1 ∷ 1 ∷ 1 ∷ 0 ∷ []

-- its right twin polls for tag 1 and receives it before it receives tag 2. At node 2 rank 1 has received tag 1, at node 3 tag 2 was sent
-- too, and node 4 is the end; at node 5 both were sent before rank 1 polled
abbrev pub twin_leads : List Lead
twin_leads =
    moved 0 0 1 ∷ moved 1 0 0 ∷ moved 0 1 5 ∷ moved 1 1 2 ∷ moved 0 2 3 ∷ moved 1 3 4 ∷ moved 1 5 3 ∷ []

abbrev pub twin_resting : List ℕ
twin_resting = 0 ∷ 1 ∷ 0 ∷ 1 ∷ 0 ∷ 1 ∷ []

-- these moves were found, these ranks rest, and node 4 is the only end
pub record IsGraph (found : Findings) (leads : List Lead) (resting : List ℕ) : Type 0 where
  pub leads_are : found.leads ≡ leads
  pub resting_are : found.resting ≡ resting
  pub ends_are : found.ends ≡ 4 ∷ []

pub record WorkedPatient : Type 0 where
  -- from where rank 0 rests behind its first send no such moves lead to the end, nor from where it is about to make it
  pub before : (found : Findings) → IsGraph found poll_leads poll_resting → Hangs found 0
  pub behind : (found : Findings) → IsGraph found poll_leads poll_resting → Hangs found 1
  -- once tag 2 was sent they do
  pub sent : (found : Findings) → IsGraph found poll_leads poll_resting → PatientlyGoesTo found 2
  -- and in the twin from the first node on
  pub twin : (found : Findings) → IsGraph found twin_leads twin_resting → PatientlyGoesTo found 0

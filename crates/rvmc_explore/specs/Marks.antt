-- Marks of nodes, while they are set.
use Rattle.std.specs.Prelude.{ℕ, ◌<◌, ◌≤◌, ◌≡◌, Bool, true, not, List, length, slice_get, Option, None, Some}
use Rattle.std.specs.List.{count_by}
use Rattle.cl_explore.specs.declared.leads.Lead.{Lead}

-- the node of this number is marked, if there is a mark for it
abbrev pub IsMarkedIfThere : List Bool → ℕ → Type 0
IsMarkedIfThere marks i = i < length marks → slice_get marks i ≡ Some true

-- each mark that was set is
abbrev pub HaveStayed : List Bool → List Bool → Type 0
HaveStayed old new = (i : ℕ) → slice_get old i ≡ Some true → slice_get new i ≡ Some true

-- how many aren't
abbrev pub unmarked : List Bool → ℕ
unmarked marks = count_by not marks

-- where the move at this place led to a marked node, the one is marked from which it led
abbrev pub IsMarkedBefore : List Lead → ℕ → List Bool → Type 0
IsMarkedBefore leads place marks =
    (lead : Lead) → slice_get leads place ≡ Some lead → slice_get marks lead.to ≡ Some true
    → IsMarkedIfThere marks lead.from

-- and so of each move from this place on
abbrev pub AreMarkedFrom : List Lead → ℕ → List Bool → Type 0
AreMarkedFrom leads first marks = (place : ℕ) → first ≤ place → IsMarkedBefore leads place marks

-- ---- nodes that are marked in one way alone

-- marked among the ones, and not among the others
abbrev pub IsMarkedAlone : List Bool → List Bool → ℕ → Type 0
IsMarkedAlone all others i = (slice_get all i ≡ Some true) × (slice_get others i ≡ Some true → ⊥)

-- the node that is told is so; and none is, where none is told
abbrev pub TellsMarkedAlone : List Bool → List Bool → Option ℕ → Type 0
TellsMarkedAlone all others None =
    (i : ℕ) → i < length all → slice_get all i ≡ Some true → slice_get others i ≡ Some true
TellsMarkedAlone all others (Some i) = IsMarkedAlone all others i

-- Where runs hang if sends wait, as it is told.
use Rattle.std.specs.Prelude.{ℕ, ◌≡◌, ◌<◌, Bool, false, true, List, Option, None, Some, length, slice_get}
use Rattle.rv_image_types.specs.declared.images.ImageParts.{ImageParts}
use Rattle.cl_replay.specs.declared.states.ClusterState.{ClusterState}
use Rattle.cl_explore.specs.Ends.{Findings}
use Rattle.cl_explore.specs.declared.kept.KeptNode.{KeptNode}
use Rattle.cl_explore.specs.declared.needs.Needs.{Needs}
use Rattle.cl_explore.specs.declared.needs.Needs.TheVariants as needs
use Rattle.rvmc_explore.specs.HangTexts.{hang_text}
use Rattle.rvmc_explore.specs.InnerOutcomes.{AddsStuck}
use Rattle.rvmc_explore.specs.InnerPatient.{TellsHanging}
use Rattle.rvmc_explore.specs.Patient.{Hangs}
use Rattle.rvmc_explore.specs.Searched.{GoesTo}
use Rattle.rvmc_explore.specs.There.{IsKeptState}
use Rattle.rvmc_explore.specs.declared.outcomes.Outcome.{Outcome}

-- moves lead from each node to an end
abbrev pub EachGoes : Findings → Type 0
EachGoes found = (i : ℕ) → i < length found.kept → GoesTo found.leads found.ends i

-- a node at which runs hang if sends wait; or none, where no ranks need buffers and no runs go on for ever anyway
abbrev pub TellsHangingIn : Findings → Needs → Bool → Option ℕ → Type 0
TellsHangingIn found known unending None = known ≡ needs.Nobody → unending ≡ false → TellsHanging found None
TellsHangingIn found known unending (Some i) =
    (known ≡ needs.Nobody) × (unending ≡ false) × (i < length found.kept) × Hangs found i

-- the text of the node of this number, at which the ranks of the set rest
pub record IsHangBody (image : ImageParts) (kept : List KeptNode) (node resting : ℕ) (body : List ℕ) : Type 0 where
  pub state : ClusterState
  pub is : IsKeptState kept node state
  pub spelled : body ≡ hang_text image state resting

-- these ranks were noted to rest at the node of this number, if some were
abbrev pub AreNoted : List ℕ → ℕ → ℕ → Type 0
AreNoted resting i set = (noted : ℕ) → slice_get resting i ≡ Some noted → set ≡ noted

-- what is told of such a node stands behind the others, unless its text is told
pub record TellsHangAt (image : ImageParts) (found : Findings) (old new : List Outcome) (known : Needs) (unending : Bool)
    : Type 0 where
  pub node : ℕ
  pub nobody : known ≡ needs.Nobody
  pub ends : unending ≡ false
  pub inside : node < length found.kept
  pub hangs : Hangs found node
  pub set : ℕ
  pub noted : AreNoted found.resting node set
  pub body : List ℕ
  pub spelled : IsHangBody image found.kept node set body
  pub adds : AddsStuck found.kept old node body new

abbrev pub TellsHang : ImageParts → Findings → List Outcome → List Outcome → Needs → Bool → Bool → Type 0
TellsHang image found old new known unending false = (new ≡ old) × TellsHangingIn found known unending None
TellsHang image found old new known unending true = TellsHangAt image found old new known unending

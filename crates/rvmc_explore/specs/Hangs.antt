-- What a complete search says of runs in which standard sends wait for their receives (MPI 4.1, 3.4 and 3.5).
use Rattle.std.specs.Prelude.{ℕ, ◌≡◌, Bool, true, false, List}
use Rattle.rv_image_types.specs.declared.images.ImageParts.{ImageParts}
use Rattle.cl_machine.specs.Cluster.{Cluster, IsRun}
use Rattle.cl_machine.specs.declared.steps.Step.{Step}
use Rattle.cl_order_laws.specs.Closed.{FollowPlans, Node, had_after}
use Rattle.cl_patient_laws.specs.Patient.{HangsIfSendsWait}
use Rattle.cl_replay.specs.States.{ClusterStandsFor}
use Rattle.cl_replay.specs.declared.states.ClusterState.{ClusterState}
use Rattle.cl_rests.specs.Sets.{AreResting}
use Rattle.cl_explore.specs.declared.needs.Needs.{Needs}
use Rattle.cl_explore.specs.declared.needs.Needs.TheVariants as needs
use Rattle.cl_moves.specs.Standing.{IsWay, by_order, first_node, node_of}
use Rattle.rvmc_explore.specs.HangTexts.{hang_text}
use Rattle.rvmc_explore.specs.Outcomes.{HasBody}
use Rattle.rvmc_explore.specs.declared.outcomes.Outcome.{Outcome}

-- the text of a state is told to which a run by the order leads, and which hangs if sends wait: it may still come to an end, but not if
-- from there on each standard send waits for its receive. These are the ranks that rest there
pub record ListsHang (image : ImageParts) (order : List ℕ) (told : List Outcome) : Type 0 where
  pub steps : List Step
  pub node : Node
  pub way : IsWay (by_order order) (first_node image) steps node
  pub hangs : HangsIfSendsWait (by_order order) node
  pub set : ℕ
  pub resting : AreResting set node.cluster
  pub state : ClusterState
  pub stands : ClusterStandsFor image state node.cluster
  pub listed : HasBody told (hang_text image state set)

-- no run by the order from here, of any length, does
abbrev pub NeverHangs : List ℕ → Node → Type 0
NeverHangs order start =
    (steps : List Step) (end : Cluster) → IsRun start.cluster steps end → FollowPlans (by_order order) start.had steps
    → ¬ HangsIfSendsWait (by_order order) (node_of end (had_after start.had steps))

-- one is told; or none is, and where no ranks need buffers and no runs go on for ever anyway, no run comes to any
abbrev pub SaysHanging : ImageParts → List ℕ → List Outcome → Needs → Bool → Bool → Type 0
SaysHanging image order told known unending true = (known ≡ needs.Nobody) × (unending ≡ false) × ListsHang image order told
SaysHanging image order told known unending false =
    known ≡ needs.Nobody → unending ≡ false → NeverHangs order (first_node image)

-- Which states are ends.
use Rattle.std.specs.Prelude.{ℕ, ◌≡◌, ◌<◌, ◌↔◌, ◌⊎◌, Bool, true, false, List, length, slice_get, Some}
use Rattle.part_box.specs.declared.settled.Settled.{Settled}
use Rattle.rv_image_types.specs.declared.images.ImageParts.{ImageParts}
use Rattle.cl_state.specs.Rank.{Rank}
use Rattle.cl_state_laws.specs.Vain.{IsStopped, mode_of}
use Rattle.cl_machine.specs.Boxes.{box_number}
use Rattle.cl_machine.specs.Cluster.{Cluster}
use Rattle.cl_replay.specs.Boxes.{settled_at}
use Rattle.cl_replay.specs.States.{ClusterStandsFor}
use Rattle.cl_replay.specs.declared.states.ClusterState.{ClusterState}
use Rattle.cl_order_laws.specs.Closed.{IsEnd, WaitsInVain}
use Rattle.cl_moves.specs.Standing.{by_order}

-- the hart is stopped, or waits in vain
abbrev pub IsResting : Cluster → ℕ → Rank → ℕ → Type 0
IsResting cluster r rank hart = IsStopped (mode_of rank hart) ⊎ WaitsInVain cluster r rank hart

-- each of these harts is
abbrev pub AreResting : Cluster → ℕ → Rank → List ℕ → Type 0
AreResting cluster r rank harts = (i hart : ℕ) → slice_get harts i ≡ Some hart → IsResting cluster r rank hart

-- nothing stands in the box, or something does, if it is there
abbrev pub IsVacantIn : List (List Settled) → ℕ → ℕ → Type 0
IsVacantIn boxes link part = (s : Settled) → settled_at boxes (box_number link part) ≡ Some s → s.full ≡ false

abbrev pub IsFullIn : List (List Settled) → ℕ → ℕ → Type 0
IsFullIn boxes link part = (s : Settled) → settled_at boxes (box_number link part) ≡ Some s → s.full ≡ true

-- whichever cluster the state is, it is told of it just whether nobody goes on
abbrev pub TellsEnd : ClusterState → List ℕ → Bool → Type 0
TellsEnd state order end =
    (image : ImageParts) (cluster : Cluster) → ClusterStandsFor image state cluster → length cluster.ranks < 256
    → (end ≡ true) ↔ IsEnd (by_order order) cluster

-- What the code keeps of boxes: how often each was made ready, and how often taken.
use Rattle.std.specs.Prelude.{ℕ, ◌≡◌, ◌<◌, List, length, slice_get, Option, Some, None}
use Rattle.cl_machine.specs.Boxes.{Box, box_number}
use Rattle.cl_machine.specs.declared.steps.Step.{Step}
use Rattle.cl_replay.specs.Replaying.{IsReached}
use Rattle.cl_replay.specs.declared.states.ClusterState.{ClusterState}
use Rattle.cl_state.specs.Asked.{asked}
use Rattle.cl_state.specs.Room.{rank_of}
use Rattle.cl_state.specs.declared.asking.Ask.{Ask}
use Rattle.cl_state.specs.declared.state.RankState.{RankState}
use Rattle.cl_trace.specs.declared.events.Kind.{Kind}
use Rattle.rv_image_types.specs.declared.images.ImageParts.{ImageParts}
use Rattle.rvmc_stats.specs.MoreAt.{added}
use Rattle.rvmc_stats.specs.Counts.{IsTally}
use Rattle.rvmc_stats.specs.Tallies.{count_at}
use Rattle.rvmc_sights.specs.Lines.{box_in}
use Rattle.rvmc_list.specs.Phases.{made_in_box, phase_met, taken_in_box}
use Rattle.rvmc_list.specs.declared.phases.Phases.{Phases}

-- the numbers are those of these boxes
pub record AreOfBoxes (boxes : List Box) (phases : Phases) : Type 0 where
  pub made : IsTally (length boxes) (made_in_box boxes) phases.made
  pub taken : IsTally (length boxes) (taken_in_box boxes) phases.taken

abbrev pub one_made : Option (ℕ × ℕ) → Phases → Phases
one_made None phases = phases
one_made (Some box) phases = record { made = added phases.made (box_number box.0 box.1) 1; taken = phases.taken }

abbrev pub one_got : Option (ℕ × ℕ) → Phases → Phases
one_got None phases = phases
one_got (Some box) phases = record { made = phases.made; taken = added phases.taken (box_number box.0 box.1) 1 }

-- behind a step of this kind, which asks this box
abbrev pub behind_box : Kind → Option (ℕ × ℕ) → Phases → Phases
behind_box Kind.Ready box phases = one_made box phases
behind_box Kind.Take box phases = one_got box phases
behind_box _ box phases = phases

abbrev pub phase_known : Kind → Phases → Ask → Option ℕ
phase_known kind phases a = phase_met kind (count_at phases.made) (count_at phases.taken) a

-- a step met a box, or none, of what its hart asked
pub record IsMetBy (e : Step) (asks : Ask) (old : Phases) (phase : Option ℕ) (new : Phases) : Type 0 where
  pub phase_is : phase ≡ phase_known e.kind old asks
  pub counted_is : new ≡ behind_box e.kind (box_in asks) old

-- whatever its rank is
abbrev pub IsMet : ClusterState → Step → Phases → Option ℕ → Phases → Type 0
IsMet state e old phase new =
    (s : RankState) → slice_get state.ranks.items e.rank ≡ Some s → e.hart < length s.harts.items
    → IsMetBy e (asked (rank_of s) e.hart) old phase new

-- the state is the cluster at a place, and the numbers are those of its boxes
pub record IsCountedTo (image : ImageParts) (steps : List Step) (n : ℕ) (state : ClusterState) (phases : Phases)
    : Type 0 where
  pub reached : IsReached image steps n state
  pub phases_are : AreOfBoxes reached.cluster.boxes phases

-- How the text of a record is put together, one step after another.
use Rattle.std.specs.Prelude.{ℕ, ◌≡◌, ◌<◌, ◌≤◌, ◌++◌, ◌∷◌, [], Bool, List, Option, None, Some, false, length, slice_get}
use Rattle.rv_hart.specs.State.{State}
use Rattle.rv_image_types.specs.declared.images.ImageParts.{ImageParts}
use Rattle.rv_image_types.specs.declared.images.Symbol.{Symbol}
use Rattle.cl_machine.specs.declared.steps.Step.{Step}
use Rattle.cl_replay.specs.Replaying.{IsReached}
use Rattle.cl_replay.specs.declared.states.ClusterState.{ClusterState}
use Rattle.cl_state.specs.Room.{rank_of}
use Rattle.cl_state.specs.declared.state.RankState.{RankState}
use Rattle.rvmc_sights.specs.Lines.{hart_of, overflow_of, sight_of}
use Rattle.rvmc_sights.specs.Seen.{IsSeenBefore, seen}
use Rattle.rvmc_sights.specs.declared.lines.Seen.{Seen}
use Rattle.rvmc_list.specs.Folding.{Line, is_wanted, scene_line, lines_of, scenes_text}
use Rattle.rvmc_list.specs.Phases.{Scene, scene_text}
use Rattle.rvmc_list.specs.Meeting.{IsCountedTo}
use Rattle.rvmc_list.specs.List.{AreScenes, replayed_to, last_place, names_no_rank}
use Rattle.rvmc_list.specs.Pieces.{behind, closing, opened_by, piece_of}
use Rattle.rvmc_list.specs.declared.folding.Wanted.{Wanted}
use Rattle.rvmc_list.specs.declared.phases.Phases.{Phases}
use Rattle.rvmc_list.specs.declared.walk.Done.{Done}

-- a step was put: whatever its rank was before and after it, its sight was added, and this line is begun behind it
pub record IsPut (wanted : Wanted) (begun : Option ℕ) (line : Line) (e : Step) (old new : List ℕ)
    (next : Option ℕ) : Type 0 where
  pub text : new ≡ old ++ piece_of begun line (is_wanted wanted e)
  pub open_is : next ≡ opened_by wanted begun e

abbrev pub Puts : List Symbol → Wanted → ClusterState → ℕ → Option ℕ → Step → ClusterState → List ℕ → Option ℕ → List ℕ
    → Option ℕ → Type 0
Puts symbols wanted old place phase e new text begun after next =
    (s t : RankState) → slice_get old.ranks.items e.rank ≡ Some s → slice_get new.ranks.items e.rank ≡ Some t
    → e.hart < length s.harts.items → e.hart < length t.harts.items
    → IsPut wanted begun
    (scene_line symbols wanted (record { sight = sight_of place e (rank_of s) (rank_of t); phase = phase })) e text after next

-- the line of a step that does an instruction was put behind what was begun, whatever its rank was before and after it
abbrev pub PutsPlainLine : List Symbol → ClusterState → ℕ → Option ℕ → Step → ClusterState → Option ℕ → List ℕ → List ℕ
    → Type 0
PutsPlainLine symbols old place phase e new begun text after =
    (s t : RankState) → slice_get old.ranks.items e.rank ≡ Some s → slice_get new.ranks.items e.rank ≡ Some t
    → e.hart < length s.harts.items → e.hart < length t.harts.items
    → after ≡ text
    ++ (closing begun
    ++ (scene_text symbols (record { sight = sight_of place e (rank_of s) (rank_of t); phase = phase }) ++ 10 ∷ []))

-- what was seen of a step in whichever rank has it
abbrev pub IsLook : ClusterState → Step → Option Seen → Type 0
IsLook state e seen = (s : RankState) → slice_get state.ranks.items e.rank ≡ Some s → IsSeenBefore e (rank_of s) seen

abbrev pub IsHartAfter : ClusterState → Step → Option State → Type 0
IsHartAfter state e hart =
    (t : RankState) → slice_get state.ranks.items e.rank ≡ Some t → e.hart < length t.harts.items
    → hart ≡ Some (hart_of e (rank_of t))

-- whether it has trapped because its stack is full
abbrev pub IsOverflowAfter : ClusterState → Step → Bool → Type 0
IsOverflowAfter state e overflow =
    (t : RankState) → slice_get state.ranks.items e.rank ≡ Some t → e.hart < length t.harts.items
    → overflow ≡ overflow_of e (rank_of t)

-- what was seen of a step that was done, whatever its rank was before and after it
abbrev pub IsDoneAs : Step → RankState → RankState → Option Done → Type 0
IsDoneAs e s t None = ⊥
IsDoneAs e s t (Some done) =
    (place : ℕ) → seen place e done.before done.after ≡ sight_of place e (rank_of s) (rank_of t)

abbrev pub IsDone : ClusterState → Step → ClusterState → Option Done → Type 0
IsDone old e new done =
    (s t : RankState) → slice_get old.ranks.items e.rank ≡ Some s → slice_get new.ranks.items e.rank ≡ Some t
    → e.hart < length s.harts.items → e.hart < length t.harts.items → IsDoneAs e s t done

-- the cluster at a place, and the place where what is wanted ends
pub record IsStart (image : ImageParts) (steps : List Step) (wanted : Wanted) (place : ℕ) (state : ClusterState) (to : ℕ)
    : Type 0 where
  pub reached : IsReached image steps place state
  pub to_is : to ≡ last_place wanted steps
  pub rank : names_no_rank wanted.rank image.ranks ≡ false
  pub within : replayed_to wanted steps ≤ length steps

-- the steps from one place to another were put, and the state is the cluster there
pub record ArePut (image : ImageParts) (steps : List Step) (wanted : Wanted) (from n : ℕ) (state : ClusterState)
    (phases : Phases) (begun : Option ℕ) (old new : List ℕ) : Type 0 where
  pub counted_to : IsCountedTo image steps n state phases
  pub scenes : List Scene
  pub are : AreScenes image steps from n scenes
  pub text : (rest : List Scene) → old ++ scenes_text image.symbols wanted (scenes ++ rest)
      ≡ new ++ behind begun (lines_of image.symbols wanted rest)

-- what was told of the steps from one place to another was added to a text, each line with its end
pub record AreTold (image : ImageParts) (steps : List Step) (wanted : Wanted) (to : ℕ) (old new : List ℕ) : Type 0 where
  pub scenes : List Scene
  pub are : AreScenes image steps wanted.from to scenes
  pub text : new ≡ old ++ scenes_text image.symbols wanted scenes

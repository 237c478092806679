-- A record in words.
use Rattle.std.specs.Prelude.{ℕ, ◌≡◌, ◌+◌, ◌-◌, nat_le, Bool, true, false, max, List, length, slice_get}
use Rattle.std.specs.Prelude.{Option, Some, None}
use Rattle.std.specs.Option.{unwrap_or}
use Rattle.rv_image_types.specs.declared.images.ImageParts.{ImageParts}
use Rattle.cl_state.specs.Asked.{asked}
use Rattle.cl_machine.specs.declared.steps.Step.{Step}
use Rattle.cl_replay.specs.InnerReplaying.{ReplayFaultHolds}
use Rattle.rvmc_sights.specs.Lines.{Sight}
use Rattle.rvmc_sights.specs.Sights.{IsSightAt}
use Rattle.rvmc_list.specs.Folding.{scenes_text}
use Rattle.rvmc_list.specs.Phases.{Scene, phase_in}
use Rattle.rvmc_list.specs.declared.folding.Wanted.{Wanted}
use Rattle.rvmc_list.specs.declared.walk.ListFault.{ListFault}
use Rattle.rvmc_list.specs.declared.walk.ListFault.TheVariants as fault

-- ---- what is seen of a record

-- of the steps from one place to another, in order
pub record AreSights (image : ImageParts) (steps : List Step) (from to : ℕ) (sights : List Sight) : Type 0 where
  pub count : length sights ≡ to - from
  pub each : (k : ℕ) (sight : Sight) → slice_get sights k ≡ Some sight → IsSightAt image steps (from + k) sight

-- of step n, with the phase of the box that it asks, in the cluster before it
pub record IsSceneAt (image : ImageParts) (steps : List Step) (n : ℕ) (scene : Scene) : Type 0 where
  pub sight : IsSightAt image steps n scene.sight
  pub phase : scene.phase ≡ phase_in sight.step.kind sight.old.boxes (asked sight.before sight.step.hart)

pub record AreScenes (image : ImageParts) (steps : List Step) (from to : ℕ) (scenes : List Scene) : Type 0 where
  pub count : length scenes ≡ to - from
  pub each : (k : ℕ) (scene : Scene) → slice_get scenes k ≡ Some scene → IsSceneAt image steps (from + k) scene

-- where the list ends: all steps are told where no end is given
abbrev pub last_place : Wanted → List Step → ℕ
last_place wanted steps = unwrap_or wanted.to (length steps)

-- the text of a record
pub record IsList (image : ImageParts) (steps : List Step) (wanted : Wanted) (text : List ℕ) : Type 0 where
  pub scenes : List Scene
  pub are : AreScenes image steps wanted.from (last_place wanted steps) scenes
  pub is : text ≡ scenes_text image.symbols wanted scenes

-- ---- why there is none

-- the rank isn't one of the image's
abbrev pub names_no_rank : Option ℕ → ℕ → Bool
names_no_rank None ranks = false
names_no_rank (Some rank) ranks = nat_le ranks rank

-- the steps are replayed up to where the list begins and ends
abbrev pub replayed_to : Wanted → List Step → ℕ
replayed_to wanted steps = max wanted.from (last_place wanted steps)

-- why there is no text: no such rank, or why the steps weren't replayed so far
abbrev pub ListFaultHolds : ImageParts → List Step → Wanted → ListFault → Type 0
ListFaultHolds image steps wanted fault.NoRank = names_no_rank wanted.rank image.ranks ≡ true
ListFaultHolds image steps wanted (fault.Replay why) =
    (names_no_rank wanted.rank image.ranks ≡ false) × ReplayFaultHolds image steps (replayed_to wanted steps) why

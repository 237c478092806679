-- A run of an image, from the loaded cluster on.
use Rattle.std.specs.Prelude.{[], ◌∷◌, ◌≡◌, List, length, map}
use Rattle.rv_image_types.specs.declared.images.ImageParts.{ImageParts}
use Rattle.rv_image_types.specs.declared.images.ImageVersion.TheVariants.{Two}
use Rattle.rv_image_types.specs.Image.{IsImage}
use Rattle.rv_hart.specs.declared.state.Mode.{Mode}
use Rattle.rv_hart.specs.declared.state.Mode.TheVariants.{Ended}
use Rattle.rv_hart.specs.State.{State}
use Rattle.cl_trace.specs.declared.events.Kind.{Kind}
use Rattle.cl_state.specs.Rank.{Rank}
use Rattle.cl_machine.specs.declared.steps.Step.{Step}
use Rattle.cl_machine.specs.Cluster.{Cluster, IsRun, loaded_cluster}
use Rattle.cl_machine.specs.Worked.{step}

-- one rank with one hart, which does `addi x0, x0, 0` and calls EXIT: all its registers are 0 but x2
abbrev pub ending : ImageParts
ending = record {
  version = Two;
  ranks = 1;
  harts = 1;
  memory = 4096;
  entry = 0;
  text = 0x13 ∷ 0 ∷ 0 ∷ 0 ∷ 0x73 ∷ 0 ∷ 0 ∷ 0 ∷ [];
  init = [];
  comms = [];
  links = [];
  symbols = [];
}

-- the instruction, the call, and a turn of the stopped hart
abbrev pub ending_steps : List Step
ending_steps = step 0 1 Kind.Plain ∷ step 0 2 Kind.Local ∷ step 0 3 Kind.Idle ∷ []

abbrev pub modes_of : Cluster → List (List Mode)
modes_of cluster = map (λ (rank : Rank). map (λ (hart : State). hart.mode) rank.harts) cluster.ranks

-- an image that loads has a run of these steps, at whose end its hart ended with code 0: what the laws of runs and of
-- images ask for can be met
abbrev pub LoadedRow : Type 0
LoadedRow =
    IsImage ending
    × ((end : Cluster) × IsRun (loaded_cluster ending) ending_steps end × (modes_of end ≡ (Ended 0 ∷ []) ∷ []))

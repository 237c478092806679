-- What stands at a writer of a record in words.
use Rattle.std.specs.Prelude.{ℕ, ◌≡◌, ◌≤◌, ◌⊎◌, false, length, max, List, Option}
use Rattle.std.specs.Io.{StartsWith}
use Rattle.std.specs.Io.KnownBytes.{Appends, Keeps}
use Rattle.cl_machine.specs.declared.steps.Step.{Step}
use Rattle.cl_replay.specs.Replays.{IsRunUpTo}
use Rattle.cl_replay.specs.declared.replaying.ReplayFault.TheVariants as replay
use Rattle.rv_image_types.specs.declared.images.ImageParts.{ImageParts}
use Rattle.rvmc_list.specs.List.{IsList, replayed_to, last_place, names_no_rank}
use Rattle.rvmc_list.specs.declared.folding.Wanted.{Wanted}
use Rattle.rvmc_list.specs.declared.walk.ListFault.{ListFault}
use Rattle.rvmc_list.specs.declared.walk.ListFault.TheVariants as fault

-- all of its text, behind what stood there
pub record IsWritten (image : ImageParts) (steps : List Step) (wanted : Wanted) (old new : Option (List ℕ)) : Type 0 where
  pub text : List ℕ
  pub list : IsList image steps wanted text
  pub there : Appends old new text

-- a beginning of its text
pub record IsBegun (image : ImageParts) (steps : List Step) (wanted : Wanted) (old new : Option (List ℕ)) : Type 0 where
  pub text : List ℕ
  pub list : IsList image steps wanted text
  pub front : List ℕ
  pub begins : StartsWith text front
  pub there : Appends old new front

-- where it is refused: nothing; or, where memory is refused while it is written, a beginning
abbrev pub Leaves : ImageParts → List Step → Wanted → ListFault → Option (List ℕ) → Option (List ℕ) → Type 0
Leaves image steps wanted (fault.Replay replay.Memory) old new = Keeps old new ⊎ IsBegun image steps wanted old new
Leaves image steps wanted other old new = Keeps old new

-- ---- the way there

-- where the list ends: the rank and the places are there, and the steps up to that place, and up to where the list begins,
-- are a run
pub record IsChecked (image : ImageParts) (steps : List Step) (wanted : Wanted) (to : ℕ) : Type 0 where
  pub to_is : to ≡ last_place wanted steps
  pub rank : names_no_rank wanted.rank image.ranks ≡ false
  pub within : replayed_to wanted steps ≤ length steps
  pub run : IsRunUpTo image steps (max wanted.from to)

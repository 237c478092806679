-- What stands at a writer of a page.
use Rattle.std.specs.Prelude.{ℕ, ◌≡◌, ◌⊎◌, ◌++◌, List, length, Option}
use Rattle.std.specs.Io.{StartsWith}
use Rattle.std.specs.Io.KnownBytes.{Appends, Keeps}
use Rattle.rv_image_types.specs.declared.images.ImageParts.{ImageParts}
use Rattle.cl_machine.specs.declared.steps.Step.{Step}
use Rattle.rvmc_changes.specs.Below.{ClusterState, IsRunUpTo, ReplayFault}
use Rattle.rvmc_changes.specs.Below.replay
use Rattle.rvmc_changes.specs.Changes.{Difference}
use Rattle.rvmc_changes.specs.Walking.{HasCome}
use Rattle.rvmc_changes.specs.Walks.{seen_at_start}
use Rattle.rvmc_draw.specs.declared.views.View.{View}
use Rattle.rvmc_page.specs.Pages.{before_steps}
use Rattle.rvmc_page.specs.Records.{IsPage, IsShownOf}
use Rattle.rvmc_page.specs.Steps.{changes_text}
use Rattle.rvmc_page.specs.Texts.{Source}
use Rattle.rvmc_page.specs.declared.pages.Page.{Page}

-- all of its text, behind what stood there
pub record IsPageWritten (image : ImageParts) (steps : List Step) (view : View) (sources : List Source)
    (old new : Option (List ℕ)) : Type 0 where
  pub text : List ℕ
  pub page : IsPage image steps view sources text
  pub there : Appends old new text

-- a beginning of its text
pub record IsPageBegun (image : ImageParts) (steps : List Step) (view : View) (sources : List Source)
    (old new : Option (List ℕ)) : Type 0 where
  pub text : List ℕ
  pub page : IsPage image steps view sources text
  pub front : List ℕ
  pub begins : StartsWith text front
  pub there : Appends old new front

-- where it is refused: nothing; or, where memory is refused while it is written, a beginning
abbrev pub LeavesPage : ImageParts → List Step → View → List Source → ReplayFault → Option (List ℕ) → Option (List ℕ)
    → Type 0
LeavesPage image steps view sources replay.Memory old new = Keeps old new ⊎ IsPageBegun image steps view sources old new
LeavesPage image steps view sources other old new = Keeps old new

-- ---- the way there

abbrev pub view_to : ℕ → ℕ → View
view_to from to = record { from = from; to = to }

-- what is shown of steps that are a run, but for their changes, of which those up to a place are known
pub record IsPageTo (image : ImageParts) (steps : List Step) (view : View) (page : Page) (n : ℕ)
    (changes : List Difference) (state : ClusterState) : Type 0 where
  pub from : page.from ≡ view.from
  pub shown : IsShownOf image steps view page.shown
  pub run : IsRunUpTo image steps (length steps)
  pub come : HasCome image steps view.from n (seen_at_start page.start.items) changes state

-- what was written, and what is held, are the text up to these changes
pub record AreWritten (image : ImageParts) (steps : List Step) (view : View) (page : Page) (n : ℕ) (state : ClusterState)
    (held : List ℕ) (before after : Option (List ℕ)) : Type 0 where
  pub front : List ℕ
  pub there : Appends before after front
  pub changes : List Difference
  pub are : IsPageTo image steps view page n changes state
  pub text : front ++ held ≡ before_steps image page ++ changes_text changes

-- What is told of a search by right plans.
use Rattle.std.proofs.Common.{◌≡◌, ℕ, Bool, List, Option, None, Some, inl, inr}
use Rattle.std.specs.Io.KnownBytes.{Keeps}
use Rattle.std.proofs.KnownBytes.{Appends-kept, Keeps-refl, Keeps-trans}
use Rattle.cl_record.specs.Plans.{HasPlans}
use Rattle.rv_image_types.specs.declared.images.ImageParts.{ImageParts}
use Rattle.rvmc_explore.specs.Telling.{IsBegun, Tells}
use Rattle.rvmc_line.specs.declared.line.ImageCommand.TheVariants.{Explore}
use Rattle.rvmc_answers.specs.Below.{Fault}
use Rattle.rvmc_answers.specs.Below.faults
use Rattle.rvmc_answers.specs.Making.{IsMakingFault}
use Rattle.rvmc_answers.specs.Plans.{ByPlans, listed}
use Rattle.rvmc_tool.specs.Answers.{IsExplored}
use Rattle.rvmc_tool.specs.Exploring.{IsCutSearch, IsEndRecord}
use Rattle.rvmc_tool.specs.Made.{LeavesCut}
use Rattle.rvmc_tool.specs.Unexplored.{IsNoEnd}

-- a fault that is no search's leaves the output as it was
pub left_alone : (IsCut : List ℕ → Type 0) (fault : Fault) (known : Option (List ℕ)) → LeavesCut IsCut fault known known
left_alone IsCut fault known = inl (Keeps-refl known)

-- what a fault left stays there while the writer keeps what it holds
pub left_stays : (IsCut : List ℕ → Type 0) (fault : Fault) (before old new : Option (List ℕ)) → Keeps old new
    → LeavesCut IsCut fault before old → LeavesCut IsCut fault before new
left_stays IsCut fault before old new keeps (inl stays) = inl (Keeps-trans before old new stays keeps)
left_stays IsCut fault before old new keeps (inr (memory, text, cut, there)) =
    inr (memory, text, cut, Appends-kept before old new text there keeps)

-- of an image, whose harts take turns in this order, by right plans
module _ (image : ImageParts) (harts : Option (List ℕ)) (buffered : Bool) (states turns : ℕ)
    (by : ByPlans image turns harts (HasPlans image)) where
  pub told_by : (text : List ℕ) (status : ℕ) → Tells image (listed harts image.harts) buffered states turns text status
      → IsExplored image harts buffered states turns None text status
  told_by text status tells =
      (by.0, by.1, record { told = λ _. tells; refused = λ wrong. absurd (wrong by.2) })

  pub recorded_by : (number : ℕ) (text : List ℕ) (status : ℕ)
      → IsEndRecord image (listed harts image.harts) buffered states turns number text × (status ≡ 0)
      → IsExplored image harts buffered states turns (Some number) text status
  recorded_by number text status is =
      (by.0, by.1, record { told = λ _. inl is; refused = λ wrong. absurd (wrong by.2) })

  pub refused_by : (number : ℕ) (fault : Fault)
      → IsMakingFault ⊥ ⊥ (IsNoEnd image (listed harts image.harts) buffered states turns (Some number)) fault
      → IsMakingFault (ByPlans image turns harts (λ plans. ¬ (HasPlans image plans))) ⊥
      (λ refusal. ByPlans image turns harts (λ plans.
      HasPlans image plans × IsNoEnd image (listed harts image.harts) buffered states turns (Some number) refusal)) fault
  refused_by number faults.Plans is = absurd is
  refused_by number (faults.Unlike rank place) is = absurd is
  refused_by number faults.Spawn is = absurd is
  refused_by number (faults.Explore refusal) is = (by.0, by.1, (by.2, is))
  refused_by number faults.Memory is = tt
  refused_by number other is = absurd is

  -- outcomes that were found before memory was refused
  pub cut_by : (progress : Bool) (text : List ℕ) → IsBegun image (listed harts image.harts) buffered text
      → IsCutSearch (Explore harts states turns None buffered progress) image text
  cut_by progress text begun = (by.0, by.1, (by.2, begun))

-- The phase of a step that asks a box: in its phase k, from 1, a sender makes the k-th thing of each box of its link, and
-- the receiver takes it there (MPI 4.1, chapter 4.2).
use Rattle.std.specs.Prelude.{ℕ, ◌+◌, List, [], ◌++◌, codes, length, slice_get, Option, Some, None}
use Rattle.std.specs.Fmt.{decimal}
use Rattle.rv_image_types.specs.declared.images.Symbol.{Symbol}
use Rattle.cl_machine.specs.Boxes.{Box, box_number}
use Rattle.cl_state.specs.declared.asking.Ask.{Ask}
use Rattle.cl_state.specs.declared.asking.Ask.TheVariants as ask
use Rattle.cl_trace.specs.declared.events.Kind.{Kind}
use Rattle.rvmc_stats.specs.Tallies.{capped}
use Rattle.rvmc_sights.specs.Lines.{Sight, sight_text}

-- ---- how far a box is

abbrev pub things_made : Option Box → ℕ
things_made None = 0
things_made (Some box) = length box.made

abbrev pub things_taken : Option Box → ℕ
things_taken None = 0
things_taken (Some box) = box.taken

-- how many things were made in the box of this number, and how many taken; where there is no such box, none
abbrev pub made_in_box : List Box → ℕ → ℕ
made_in_box boxes number = things_made (slice_get boxes number)

abbrev pub taken_in_box : List Box → ℕ → ℕ
taken_in_box boxes number = things_taken (slice_get boxes number)

-- ---- the phase

-- of what is asked, where so many things were made in each box, and so many taken: who makes a partition ready makes one
-- more, who looks for one takes one more, and who waits until its partition is taken made the last one. A number that
-- 64 bits don't hold is told as the greatest that they do
abbrev pub phase_asked : (ℕ → ℕ) → (ℕ → ℕ) → Ask → Option ℕ
phase_asked made taken (ask.Ready link part bytes) = Some (capped (made (box_number link part) + 1))
phase_asked made taken (ask.Look link part) = Some (capped (taken (box_number link part) + 1))
phase_asked made taken (ask.Freed link part) = Some (capped (made (box_number link part)))
phase_asked made taken _ = None

-- of the kinds of steps that ask a box
abbrev pub phase_met : Kind → (ℕ → ℕ) → (ℕ → ℕ) → Ask → Option ℕ
phase_met Kind.Ready made taken a = phase_asked made taken a
phase_met Kind.Take made taken a = phase_asked made taken a
phase_met Kind.Miss made taken a = phase_asked made taken a
phase_met Kind.Freed made taken a = phase_asked made taken a
phase_met _ made taken a = None

-- in a cluster with these boxes
abbrev pub phase_in : Kind → List Box → Ask → Option ℕ
phase_in kind boxes a = phase_met kind (made_in_box boxes) (taken_in_box boxes) a

-- ---- its text

-- what is seen of a step, and the phase of the box that it asks
pub record Scene : Type 0 where
  pub sight : Sight
  pub phase : Option ℕ

abbrev pub phase_text : Option ℕ → List ℕ
phase_text None = []
phase_text (Some phase) = codes " -> phase " ++ decimal phase

-- the line of a step and, at its end, the phase
abbrev pub scene_text : List Symbol → Scene → List ℕ
scene_text symbols scene = sight_text symbols scene.sight ++ phase_text scene.phase

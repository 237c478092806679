-- The receiver's side of a link (MPI 4.1, chapter 4.2): its shape, the sender's cut of the same total, whether a phase
-- is going on, and which boxes were taken in it. Box i has the bytes of the sender's partition i.
use Rattle.std.specs.Prelude.{ℕ, zero, suc, ◌+◌, ◌*◌, ◌≤◌, ◌==◌, nat_lt, ◌&&◌, not, List, set, get_or, Bool, true}
use Rattle.std.specs.Prelude.{false}
use Rattle.std.specs.Prelude.{Option, Some, None, is_some, if◌then◌else◌}
use Rattle.rv_image_types.specs.declared.images.ImageVersion.{ImageVersion}
use Rattle.part_phase.specs.declared.receiving.RecvPhase.{RecvPhase}
use Rattle.part_phase.specs.Limits.{are_parts, is_size}
use Rattle.part_phase.specs.Sending.{none_marked}

-- what every receiver's side keeps: the limits of its shape and of the sender's cut
pub record IsRecvPhase (p : RecvPhase) : Type 0 where
  pub most : p.parts ≤ 16
  pub largest : p.size ≤ 128
  pub boxes : p.boxes ≤ 16
  pub bytes : p.bytes ≤ 128

-- a side that no transfer has: its shape is 0 of 0, and so is the cut until it is known
abbrev pub unshaped_receiving : RecvPhase
unshaped_receiving =
    record { parts = 0; size = 0; boxes = 0; bytes = 0; active = false; taken = none_marked }

abbrev pub shaped_receiving : ℕ → ℕ → RecvPhase → RecvPhase
shaped_receiving parts size p = record p { parts = parts; size = size }

-- a cut of a receiver's total, inside the limits
abbrev pub is_cut : ImageVersion → RecvPhase → ℕ → ℕ → Bool
is_cut version p boxes bytes =
    are_parts boxes && is_size version bytes && (boxes * bytes == p.parts * p.size) && (p.boxes == 0)

abbrev pub cut_into : ℕ → ℕ → RecvPhase → RecvPhase
cut_into boxes bytes p = record p { boxes = boxes; bytes = bytes }

-- a phase begins, in which no box is taken. One that is going on goes on
abbrev pub begun_receiving : RecvPhase → RecvPhase
begun_receiving p = if p.active then p else record p { active = true; taken = none_marked }

-- the lowest number that passes, of so many from one on
abbrev pub lowest_from : (ℕ → Bool) → ℕ → ℕ → Option ℕ
lowest_from passes first zero = None
lowest_from passes first (suc n) = if passes first then Some first else lowest_from passes (first + 1) n

-- a box that isn't taken in this phase
abbrev pub is_left : List Bool → ℕ → Bool
is_left taken box = not (get_or taken box false)

-- the lowest box that isn't taken, while a phase is going on
abbrev pub next_box : RecvPhase → Option ℕ
next_box p = if p.active then lowest_from (is_left p.taken) 0 p.boxes else None

-- box i has bytes i * bytes up to (i + 1) * bytes of the whole, partition n has n * size up to (n + 1) * size: some
-- byte is in both
abbrev pub overlaps : RecvPhase → ℕ → ℕ → Bool
overlaps p part box = nat_lt (box * p.bytes) ((part + 1) * p.size) && nat_lt (part * p.size) ((box + 1) * p.bytes)

-- and the lowest that a partition overlaps
abbrev pub next_box_of : RecvPhase → ℕ → Option ℕ
next_box_of p part =
    if p.active then lowest_from (λ box. is_left p.taken box && overlaps p part box) 0 p.boxes else None

-- of so many boxes with these marks one is left
abbrev pub are_left : List Bool → ℕ → Bool
are_left taken boxes = is_some (lowest_from (is_left taken) 0 boxes)

-- a box is taken; with the last one the phase ends, and none is taken
abbrev pub one_taken : ℕ → RecvPhase → RecvPhase
one_taken box p = record p {
  active = are_left (set p.taken box true) p.boxes;
  taken = if are_left (set p.taken box true) p.boxes then set p.taken box true else none_marked;
}

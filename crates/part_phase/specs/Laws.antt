-- What holds of phases, in the standard's words (MPI 4.1, chapter 4.2).
use Rattle.std.specs.Prelude.{◌≡◌, ◌≢◌, ℕ, ◌+◌, ◌*◌, ◌<◌, ◌≤◌, List, length, get_or, slice_get, true, false, Some, None}
use Rattle.std.specs.Prelude.{option_map}
use Rattle.rv_image_types.specs.declared.images.ImageVersion.{ImageVersion}
use Rattle.rv_image_types.specs.declared.images.Link.{Link}
use Rattle.part_phase.specs.declared.phases.Phase.{Phase}
use Rattle.part_phase.specs.declared.phases.Phase.TheVariants.{Apart, Sending, Receiving}
use Rattle.part_phase.specs.declared.receiving.RecvPhase.{RecvPhase}
use Rattle.part_phase.specs.declared.sending.SendPhase.{SendPhase}
use Rattle.part_phase.specs.Phases.{changed_at, first_phases}
use Rattle.part_phase.specs.Receiving.{unshaped_receiving}
use Rattle.part_phase.specs.Receiving.{is_cut, cut_into, next_box, next_box_of, one_taken, begun_receiving}
use Rattle.part_phase.specs.Sending.{readied, unshaped_sending}
use Rattle.part_phase.specs.Sending.{all_freed, begun_sending, is_part_ready, next_to_free, one_freed}

-- a byte of the whole lies in a box, as the sender cut it, and in a partition, as the receiver did
abbrev pub IsInBox : RecvPhase → ℕ → ℕ → Type 0
IsInBox p box byte = (box * p.bytes ≤ byte) × (byte < (box + 1) * p.bytes)

abbrev pub IsInPart : RecvPhase → ℕ → ℕ → Type 0
IsInPart p part byte = (part * p.size ≤ byte) × (byte < (part + 1) * p.size)

-- a box was taken in this phase
abbrev pub IsTaken : RecvPhase → ℕ → Type 0
IsTaken p box = get_or p.taken box false ≡ true

-- each byte of a partition lies in a box that was taken in this phase
abbrev pub HasArrived : RecvPhase → ℕ → Type 0
HasArrived p part = (byte : ℕ) → IsInPart p part byte → (box : ℕ) × (IsInBox p box byte × IsTaken p box)

-- the sender's cut is known, and of the receiver's total
abbrev pub KnowsCut : RecvPhase → Type 0
KnowsCut p = (0 < p.boxes) × (p.boxes * p.bytes ≡ p.parts * p.size)

-- a cut that a side may have is known once it has it
abbrev pub CutLaw : Type 0
CutLaw = (version : ImageVersion) (p : RecvPhase) (boxes bytes : ℕ) → is_cut version p boxes bytes ≡ true →
    KnowsCut (cut_into boxes bytes p)

-- the next box is the lowest of the sender's that isn't taken
abbrev pub NextBoxLaw : Type 0
NextBoxLaw = (p : RecvPhase) (box : ℕ) → next_box p ≡ Some box →
    (box < p.boxes) × (get_or p.taken box false ≡ false) × ((lower : ℕ) → lower < box → IsTaken p lower)

-- a partition that waits for no box in a phase has arrived (4.2.3)
abbrev pub ArrivedLaw : Type 0
ArrivedLaw = (p : RecvPhase) (part : ℕ) → KnowsCut p → p.active ≡ true → part < p.parts →
    next_box_of p part ≡ None → HasArrived p part

-- and one that waits for a box hasn't: a byte of it lies there, and the box isn't taken
abbrev pub AwaitedLaw : Type 0
AwaitedLaw = (p : RecvPhase) (part box : ℕ) → next_box_of p part ≡ Some box →
    (box < p.boxes) × (get_or p.taken box false ≡ false) ×
    ((byte : ℕ) × (IsInBox p box byte × IsInPart p part byte))

-- where all other boxes are taken, the last one ends the phase
abbrev pub LastTakenLaw : Type 0
LastTakenLaw = (p : RecvPhase) (box : ℕ) → box < length p.taken →
    ((other : ℕ) → other < p.boxes → other ≢ box → IsTaken p other) →
    ((one_taken box p).active ≡ false) × (next_box (one_taken box p) ≡ None)

-- where another is left, the phase goes on, in which the box is taken
abbrev pub OneTakenLaw : Type 0
OneTakenLaw = (p : RecvPhase) (box other : ℕ) → box < length p.taken → other < p.boxes → other ≢ box →
    get_or p.taken other false ≡ false → ((one_taken box p).active ≡ true) × IsTaken (one_taken box p) box

-- a phase that begins is going on: no partition is ready, and none is freed (4.2.1)
abbrev pub BegunSendingLaw : Type 0
BegunSendingLaw = (p : SendPhase) → all_freed p ≡ true → 0 < p.parts →
    (next_to_free (begun_sending p) ≡ Some 0) × ((part : ℕ) → is_part_ready (begun_sending p) part ≡ false)

-- or no box is taken
abbrev pub BegunReceivingLaw : Type 0
BegunReceivingLaw = (p : RecvPhase) → p.active ≡ false → 0 < p.boxes →
    (next_box (begun_receiving p) ≡ Some 0) ×
    ((box : ℕ) → get_or (begun_receiving p).taken box false ≡ false)

-- the next partition to be freed is one of the side's
abbrev pub NextToFreeLaw : Type 0
NextToFreeLaw = (p : SendPhase) (part : ℕ) → next_to_free p ≡ Some part → part < p.parts

-- the last partition that is freed ends the phase
abbrev pub LastFreedLaw : Type 0
LastFreedLaw = (p : SendPhase) → p.freed + 1 ≡ p.parts →
    (next_to_free (one_freed p) ≡ None) × ((part : ℕ) → is_part_ready (one_freed p) part ≡ false)

-- ---- the sides of a rank

-- a rank has the sender's side of each link from it, the receiver's of each to it, and none of any other
abbrev pub FirstSidesLaw : Type 0
FirstSidesLaw = (links : List Link) (rank n : ℕ) (link : Link) → slice_get links n ≡ Some link →
    (link.from ≡ rank → slice_get (first_phases links rank) n ≡ Some (Sending unshaped_sending)) ×
    (link.from ≢ rank → link.to ≡ rank → slice_get (first_phases links rank) n ≡ Some (Receiving unshaped_receiving)) ×
    (link.from ≢ rank → link.to ≢ rank → slice_get (first_phases links rank) n ≡ Some Apart)

-- a change of the side of one link is just that: the sides of all other links stay
abbrev pub OneSideLaw : Type 0
OneSideLaw = (phases : List Phase) (link : ℕ) (change : Phase → Phase) →
    (slice_get (changed_at link change phases) link ≡ option_map change (slice_get phases link)) ×
    ((other : ℕ) → other ≢ link → slice_get (changed_at link change phases) other ≡ slice_get phases other)

-- a partition that is made ready is ready in this phase, and no other is
abbrev pub ReadiedLaw : Type 0
ReadiedLaw = (p : SendPhase) (part : ℕ) → part < length p.ready →
    (is_part_ready (readied part p) part ≡ true) ×
    ((other : ℕ) → other ≢ part → is_part_ready (readied part p) other ≡ is_part_ready p other)

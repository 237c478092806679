-- What is reported arrived in a receiver's phase, and what the sender made ready in its phase of the same number (MPI
-- 4.1, chapter 4.2).
use Rattle.std.specs.Prelude.{ℕ, ◌+◌, ◌*◌, ◌<◌, ◌≤◌, List, [], ◌∷◌, ◌++◌, ◌≡◌, ◌⊎◌, ◌&&◌, map, slice_get, take, Some, Bool, not}
use Rattle.std.specs.Prelude.{if◌then◌else◌, IsTrue, true, false}
use Rattle.rv_image_types.specs.declared.images.ImageParts.{ImageParts}
use Rattle.rv_image_types.specs.declared.images.Link.{Link}
use Rattle.part_phase.specs.Phases.{receiving_at, sending_at}
use Rattle.part_phase.specs.Sending.{all_freed}
use Rattle.part_phase.specs.declared.receiving.RecvPhase.{RecvPhase}
use Rattle.rv_hart.specs.State.{read}
use Rattle.rv_memory.specs.Memory.{Memory}
use Rattle.mp_request.specs.declared.entries.Partitions.{Partitions}
use Rattle.mp_request.specs.Entries.{is_active}
use Rattle.mp_request.specs.Table.{has, request_at}
use Rattle.cl_calls.specs.declared.calls.Call.TheVariants as call
use Rattle.cl_calls.specs.declared.calls.Completing.{Completing}
use Rattle.cl_calls.specs.Checks.{receiving_side}
use Rattle.cl_state.specs.declared.asking.Doing.TheVariants.{Go}
use Rattle.cl_state.specs.Asked.{doing, part_of}
use Rattle.cl_state.specs.Rank.{Rank, loaded}
use Rattle.cl_state.specs.Told.{told, with_status}
use Rattle.cl_state.specs.Written.{written}
use Rattle.cl_deeds.specs.Deeds.{Act, Deed, RankMoves, answer_of, event_of}
use Rattle.cl_deeds.specs.Alone.{IsAlone}
use Rattle.cl_machine.specs.Boxes.{Thing}
use Rattle.cl_machine.specs.declared.steps.Step.{Step}
use Rattle.cl_machine.specs.Cluster.{Cluster, loaded_cluster}
use Rattle.cl_machine.specs.Order.{of_rank}
use Rattle.cl_machine.specs.Parts.{PartRunAt}
use Rattle.cl_record.specs.Records.{step_by}

-- the deeds of each rank are its steps in their order, and lead it, alone, from its start to its end
abbrev pub AreDeedsOf : ImageParts → List Step → Cluster → (ℕ → List Deed) → Type 0
AreDeedsOf image steps final deeds =
    (r : ℕ)
    → (map (λ (d : Deed). step_by d.rank (event_of d)) (deeds r) ≡ of_rank (λ (e : Step). e.rank) r steps)
    × PartRunAt RankMoves (slice_get (loaded_cluster image).ranks r) (deeds r) (slice_get final.ranks r)

-- ---- phases

-- a phase of the sender's side of a link is going on
abbrev pub is_sending : ℕ → Rank → Bool
is_sending link rank = not (all_freed (sending_at rank.phases link))

-- or of the receiver's
abbrev pub is_receiving : ℕ → Rank → Bool
is_receiving link rank = (receiving_at rank.phases link).active

-- the rank once a deed's hart was told
abbrev pub told_of : Rank → Deed → Rank
told_of rank d = told rank d.hart (answer_of d.act) d.stamp

-- a phase begins in a turn before which none was going on, and after which one is
abbrev pub begun_between : (Rank → Bool) → Rank → Rank → ℕ
begun_between going old new = if not (going old) && going new then 1 else 0

-- how many phases of a side began in these deeds
abbrev pub phases_begun : (Rank → Bool) → Rank → List Deed → ℕ
phases_begun going rank [] = 0
phases_begun going rank (d ∷ ds) = begun_between going rank (told_of rank d) + phases_begun going (told_of rank d) ds

-- the rank that these deeds led to is in phase k of a side, from 0: k + 1 began, and the last is going on
abbrev pub IsInPhase : (Rank → Bool) → ℕ → Rank → List Deed → Rank → Type 0
IsInPhase going k start ds rank = (phases_begun going start ds ≡ k + 1) × IsTrue (going rank)

-- ---- reports

-- PARRIVED of a partition of a link returns with the flag 1 (4.2.3): a turn's call is that of a partitioned receive on
-- the link
pub record SeesArrived (old : Rank) (d : Deed) (link part : ℕ) : Type 0 where
  pub handle : ℕ
  pub side : Partitions
  pub calls : doing old.site (part_of old d.hart) ≡ Go (call.Parrived handle part)
  pub names : receiving_side (request_at old.requests handle) ≡ Some side
  pub on : side.link ≡ link
  pub flag : read (part_of (told_of old d) d.hart).hart 11 ≡ 1

-- TEST or WAIT completes a partitioned receive on a link: the request is active, and isn't from then on (3.7.3, 4.2.1)
pub record CompletesReceive (old : Rank) (d : Deed) (link : ℕ) : Type 0 where
  pub completing : Completing
  pub side : Partitions
  pub calls : (doing old.site (part_of old d.hart) ≡ Go (call.Test completing))
      ⊎ (doing old.site (part_of old d.hart) ≡ Go (call.Wait completing))
  pub names : receiving_side (request_at old.requests completing.handle) ≡ Some side
  pub on : side.link ≡ link
  pub going : has is_active old.requests completing.handle ≡ true
  pub complete : has is_active (told_of old d).requests completing.handle ≡ false

-- a turn reports that a partition of a link has arrived: PARRIVED does so of one, and what completes the receive of each
abbrev pub ReportsArrived : Rank → Deed → ℕ → ℕ → Type 0
ReportsArrived old d link part =
    SeesArrived old d link part
    ⊎ (CompletesReceive old d link × (part < (receiving_at old.phases link).parts))

-- ---- what a Take writes

-- the memory once the bytes of a box were written to its place: its number times the sender's size behind the buffer
abbrev pub with_box_placed : Rank → Partitions → ℕ → List ℕ → Memory
with_box_placed rank side box bytes =
    written rank.memory (side.buffer + box * (receiving_at rank.phases side.link).bytes)
    (take (receiving_at rank.phases side.link).bytes bytes)

-- a turn placed a box in the buffer of a partitioned receive on its link; where the turn also completes the receive, it
-- wrote the status after that
pub record PlacesBox (old new : Rank) (link box : ℕ) (bytes : List ℕ) : Type 0 where
  pub handle : ℕ
  pub side : Partitions
  pub names : receiving_side (request_at old.requests handle) ≡ Some side
  pub on : side.link ≡ link
  pub memory : (new.memory ≡ with_box_placed old side box bytes)
      ⊎ ((address : ℕ) × (source : ℕ) × (tag : ℕ) × (count : ℕ)
      × (new.memory ≡ with_status (with_box_placed old side box bytes) address source tag count))

-- ---- from the sender's phase to the receiver's

-- among these deeds of a rank is this one, in phase k of a side, from 0
pub record IsDoneIn (going : Rank → Bool) (k : ℕ) (start : Rank) (ds : List Deed) (d : Deed) : Type 0 where
  pub before : List Deed
  pub later : List Deed
  pub there : ds ≡ before ++ d ∷ later
  pub rank : Rank
  pub ran : IsAlone start before rank
  pub phase : IsInPhase going k start before rank

-- a sender made this thing ready in phase k
abbrev pub IsMadeIn : ℕ → Rank → List Deed → ℕ → ℕ → Thing → Type 0
IsMadeIn k start ds link part thing =
    (d : Deed) × (d.act ≡ Act.Ready link part thing.bytes) × (d.stamp ≡ thing.stamp)
    × IsDoneIn (is_sending link) k start ds d

-- and a receiver took it in phase k, and placed its bytes
abbrev pub IsTakenIn : ℕ → Rank → List Deed → ℕ → ℕ → Thing → Type 0
IsTakenIn k start ds link box thing =
    (d : Deed) × (d.act ≡ Act.Take link box thing.stamp thing.bytes)
    × (done : IsDoneIn (is_receiving link) k start ds d)
    × PlacesBox done.rank (told_of done.rank d) link box thing.bytes

-- byte n of the whole lies in the partition or box of this number, where each has so many bytes
abbrev pub LiesIn : ℕ → ℕ → ℕ → Type 0
LiesIn number size byte = (number * size ≤ byte) × (byte < (number + 1) * size)

-- each byte of a partition lies in a box of which the receiver took and placed, in its phase k, what the sender made
-- ready there in its phase k
abbrev pub HasCome : ImageParts → Link → RecvPhase → ℕ → ℕ → ℕ → List Deed → List Deed → Type 0
HasCome image l p link part k sent got =
    (byte : ℕ) → LiesIn part p.size byte
    → (box : ℕ) × (thing : Thing) × LiesIn box p.bytes byte
    × IsMadeIn k (loaded image l.from) sent link box thing
    × IsTakenIn k (loaded image l.to) got link box thing

-- before a partition is reported arrived in a receiver's phase k, the Takes of that phase have written to its place what
-- the sender made ready in its phase of the same number, however the two cut the total
abbrev pub ArrivesInPhase : ImageParts → List Step → Cluster → Type 0
ArrivesInPhase image steps final =
    (deeds : ℕ → List Deed) × AreDeedsOf image steps final deeds
    × ((link part k : ℕ) (l : Link) (ds later : List Deed) (old new : Rank) (d : Deed)
    → slice_get image.links link ≡ Some l → deeds l.to ≡ ds ++ d ∷ later
    → IsAlone (loaded image l.to) ds old → RankMoves old d new → ReportsArrived old d link part
    → phases_begun (is_receiving link) (loaded image l.to) (ds ++ d ∷ []) ≡ k + 1
    → HasCome image l (receiving_at new.phases link) link part k (deeds l.from) (ds ++ d ∷ []))

-- What the sending side of a channel knows, and what each call makes of it.
use Rattle.std.specs.Prelude.{◌≡◌, ◌^◌, ℕ, zero, suc, ◌+◌, ◌-◌, ◌<◌, ◌≤◌, ◌==◌, nat_le, max, List, [], ◌∷◌, length, map}
use Rattle.std.specs.Prelude.{replicate, set, get_or, slice_get, All, Bool, true, false, Option, Some, None}
use Rattle.std.specs.Prelude.{if◌then◌else◌}
use Rattle.mp_types.specs.declared.codes.Code.{Code}
use Rattle.mp_types.specs.declared.codes.Code.TheVariants.{BadPartition, AlreadyReady, NotActive}
use Rattle.part_box.specs.declared.view.Sending.{Sending}
use Rattle.part_box.specs.Gate.{taken_stamp}
use Rattle.part_box.specs.Keys.{BoxId, Sender, new_sender, after_ready, after_freed}
use Rattle.part_channel.specs.declared.progress.Progress.{Progress}
use Rattle.part_channel.specs.declared.progress.Progress.TheVariants.{AllFreed, NotReady, Missed, Freed}
use Rattle.part_channel.specs.Shapes.{IsShape}

-- The key of each box; the shape; the number of this phase, from 0; which partitions are ready in it; and how many of
-- them, from the lowest on, were freed. Between phases this number is that of the partitions, and none is ready.
pub record SendView : Type 0 where
  pub keys : List Sender
  pub parts : ℕ
  pub size : ℕ
  pub phase : ℕ
  pub ready : List Bool
  pub freed : ℕ

-- none of the sixteen
abbrev pub none_marked : List Bool
none_marked = replicate 16 false

-- how many things a partition adds to its count in this phase
abbrev pub one_if : Bool → ℕ
one_if is = if is then 1 else 0

-- how many phases have ended, which is the number of this phase: read off the first partition
abbrev pub phase_of : List Sender → List Bool → ℕ
phase_of [] ready = 0
phase_of (key ∷ keys) ready = length key.view.made - one_if (get_or ready 0 false)

abbrev pub is_ready : SendView → ℕ → Bool
is_ready side part = get_or side.ready part false

-- one element is changed
abbrev pub modified : {A : Type 0} → List A → ℕ → (A → A) → List A
modified [] i f = []
modified (x ∷ xs) zero f = f x ∷ xs
modified (x ∷ xs) (suc i) f = x ∷ modified xs i f

-- What the key of one partition keeps
pub record IsSendLane (phase parts freed i : ℕ) (key : Sending) (ready : Bool) : Type 0 where
  -- nothing is half filled
  pub filled : key.filled ≡ []
  -- one thing a phase
  pub made : i < parts → length key.made ≡ phase + one_if ready
  -- nothing was made past the shape
  pub past : parts ≤ i → (key.made ≡ []) × (ready ≡ false)
  -- a partition that isn't ready can be made so, and a freed one in the next phase
  pub waiting : ready ≡ false → key.is_open ≡ true
  pub opened : i < freed → key.is_open ≡ true
  -- a freed one was ready, and between phases none is
  pub done : i < freed → freed < parts → ready ≡ true
  pub idle : freed ≡ parts → ready ≡ false

-- What all keys keep
pub record AreSendLanes (keys : List Sender) (parts freed : ℕ) (ready : List Bool) : Type 0 where
  pub long : length keys ≡ 16
  pub flags : length ready ≡ 16
  pub most : parts ≤ 16
  pub within : freed ≤ parts
  pub lanes : (i : ℕ) (key : Sender) → slice_get keys i ≡ Some key
      → IsSendLane (phase_of keys ready) parts freed i key.view (get_or ready i false)

-- What the fields of a sending side keep
pub record IsSendSide (keys : List Sender) (parts size freed : ℕ) (ready : List Bool) : Type 0 where
  pub shape : IsShape parts size
  pub kept : AreSendLanes keys parts freed ready

-- a new side over these boxes
abbrev pub new_send_side : List BoxId → SendView
new_send_side boxes =
    record { keys = map new_sender boxes; parts = 0; size = 0; phase = 0; ready = none_marked; freed = 0 }

abbrev pub shaped : SendView → ℕ → ℕ → SendView
shaped side parts size = record side { parts = parts; size = size; freed = parts }

-- a phase begins, in which no partition is ready and none freed
abbrev pub begun : SendView → SendView
begun side = record side { ready = none_marked; freed = 0 }

-- no phase is going on
abbrev pub all_freed : SendView → Bool
all_freed side = nat_le side.parts side.freed

-- the lowest partition of this phase that isn't freed
abbrev pub next_to_free : SendView → Option ℕ
next_to_free side = if all_freed side then None else Some side.freed

-- why a partition can't be made ready
abbrev pub ready_refusal : SendView → ℕ → Option Code
ready_refusal side part =
    if nat_le side.parts part then Some BadPartition else
    if all_freed side then Some NotActive else
    if is_ready side part then Some AlreadyReady else
    None

-- a key makes a thing of these words
abbrev pub made_of : List ℕ → ℕ → Sender → Sender
made_of words stamp key = after_ready (record key { view = record key.view { filled = words } }) stamp

-- a partition is made ready: of all boxes its own is touched, and of all marks its own
abbrev pub readied : SendView → ℕ → List ℕ → ℕ → SendView
readied side part words stamp =
    record side { keys = modified side.keys part (made_of words stamp); ready = set side.ready part true }

-- the lowest partition that isn't freed is freed; with the last one the phase ends
abbrev pub is_last : SendView → Bool
is_last side = side.freed + 1 == side.parts

abbrev pub one_freed : SendView → SendView
one_freed side = record side {
  phase = if is_last side then side.phase + 1 else side.phase;
  ready = if is_last side then none_marked else side.ready;
  freed = side.freed + 1;
}

-- a test looks at the gate of the lowest partition that isn't freed, if that is ready, and finds this word
abbrev pub looks_at : SendView → Bool
looks_at side = if all_freed side then false else is_ready side side.freed

abbrev pub looked : SendView → ℕ → SendView
looked side gate = record side { keys = modified side.keys side.freed (λ key. after_freed key gate) }

abbrev pub shown : SendView → Option ℕ → SendView
shown side None = side
shown side (Some stamp) = one_freed side

abbrev pub tested : SendView → ℕ → SendView
tested side gate = if looks_at side then shown (looked side gate) (taken_stamp gate) else side

-- what a test answers by the word that it found
abbrev pub shown_progress : ℕ → Option ℕ → Progress
shown_progress clock None = Missed (clock + 1)
shown_progress clock (Some stamp) = Freed (max clock stamp + 1)

abbrev pub test_progress : SendView → ℕ → ℕ → Progress
test_progress side clock gate =
    if all_freed side then AllFreed else
    if is_ready side side.freed then shown_progress clock (taken_stamp gate) else
    NotReady

-- no stamp that the side has stored or seen is above this one
abbrev pub IsPast : SendView → ℕ → Type 0
IsPast side stamp = All (λ key. key.view.front ≤ stamp) side.keys

-- a stamp that was told is below 2^62, and none that the side then has stored or seen is above it
abbrev pub IsTold : SendView → Progress → Type 0
IsTold side AllFreed = Unit
IsTold side NotReady = Unit
IsTold side (Missed stamp) = (stamp < 2 ^ 62) × IsPast side stamp
IsTold side (Freed stamp) = (stamp < 2 ^ 62) × IsPast side stamp

-- in phase k the key of a partition made these words, under this stamp, as its thing k
abbrev pub HasMade : SendView → SendView → ℕ → List ℕ → ℕ → Type 0
HasMade old new part words stamp =
    (key : Sender) × (slice_get new.keys part ≡ Some key)
    × (slice_get key.view.made old.phase ≡ Some (record { stamp = stamp; words = words }))

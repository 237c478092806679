-- What the receiving side of a channel knows, and what each call makes of it.
use Rattle.std.specs.Prelude.{◌≡◌, ℕ, zero, suc, ◌+◌, ◌-◌, ◌*◌, ◌<◌, ◌≤◌, nat_le, nat_lt, max, ◌&&◌, List, [], ◌∷◌}
use Rattle.std.specs.Prelude.{length, map, set, get_or, slice_get, Bool, true, false, not, is_some, Option, Some, None}
use Rattle.std.specs.Prelude.{if◌then◌else◌}
use Rattle.mp_types.specs.declared.codes.Code.{Code}
use Rattle.mp_types.specs.declared.codes.Code.TheVariants.{BadPartition, AlreadyReady, NotActive}
use Rattle.part_box.specs.declared.view.Got.{Got}
use Rattle.part_box.specs.declared.view.Receiving.{Receiving}
use Rattle.part_box.specs.Gate.{ready_stamp}
use Rattle.part_box.specs.Keys.{BoxId, Receiver, new_receiver, after_look, after_empty}
use Rattle.part_channel.specs.declared.progress.Take.{Take}
use Rattle.part_channel.specs.declared.progress.Take.TheVariants as take
use Rattle.part_channel.specs.Shapes.{IsShape, IsCut}
use Rattle.part_channel.specs.Words.{bytes_of_words}
use Rattle.part_channel.specs.Sending.{one_if, modified, none_marked}

-- The key of each box; this side's shape; the sender's cut, of 0 boxes until it is known; the number of this phase,
-- from 0; whether one is going on; and which boxes were taken in it. Between phases none is.
pub record RecvView : Type 0 where
  pub keys : List Receiver
  pub parts : ℕ
  pub size : ℕ
  pub boxes : ℕ
  pub bytes : ℕ
  pub phase : ℕ
  pub active : Bool
  pub taken : List Bool

-- how many phases have ended, which is the number of this phase: read off the first box
abbrev pub round_of : List Receiver → List Bool → ℕ
round_of [] taken = 0
round_of (key ∷ keys) taken = length key.view.got - one_if (get_or taken 0 false)

-- What the key of one box keeps
pub record IsRecvLane (phase boxes : ℕ) (active : Bool) (i : ℕ) (key : Receiving) (taken : Bool) : Type 0 where
  pub seen : key.seen ≡ None
  pub copied : key.copied ≡ []
  -- one thing a phase
  pub got : i < boxes → length key.got ≡ phase + one_if taken
  pub past : boxes ≤ i → (key.got ≡ []) × (taken ≡ false)
  pub idle : active ≡ false → taken ≡ false

-- What all keys keep
pub record AreRecvLanes (keys : List Receiver) (boxes : ℕ) (active : Bool) (taken : List Bool) : Type 0 where
  pub long : length keys ≡ 16
  pub flags : length taken ≡ 16
  pub most : boxes ≤ 16
  pub lanes : (i : ℕ) (key : Receiver) → slice_get keys i ≡ Some key
      → IsRecvLane (round_of keys taken) boxes active i key.view (get_or taken i false)

-- What the fields of a receiving side keep
pub record IsRecvSide (keys : List Receiver) (parts size boxes bytes : ℕ) (active : Bool) (taken : List Bool)
    : Type 0 where
  pub shape : IsShape parts size
  pub cut : IsCut parts size boxes bytes
  pub kept : AreRecvLanes keys boxes active taken

abbrev pub new_recv_side : List BoxId → RecvView
new_recv_side ids = record {
  keys = map new_receiver ids;
  parts = 0;
  size = 0;
  boxes = 0;
  bytes = 0;
  phase = 0;
  active = false;
  taken = none_marked;
}

-- a phase begins, in which no box is taken
abbrev pub awaited : RecvView → RecvView
awaited side = record side { active = true; taken = none_marked }

-- the lowest number that passes, of so many from one on
abbrev pub lowest_from : (ℕ → Bool) → ℕ → ℕ → Option ℕ
lowest_from passes first zero = None
lowest_from passes first (suc n) = if passes first then Some first else lowest_from passes (first + 1) n

-- a box that isn't taken in this phase
abbrev pub is_left : List Bool → ℕ → Bool
is_left taken box = not (get_or taken box false)

abbrev pub next_box : RecvView → Option ℕ
next_box side = if side.active then lowest_from (is_left side.taken) 0 side.boxes else None

-- Box i has bytes i * bytes up to (i + 1) * bytes of the whole, partition p has p * size up to (p + 1) * size: some
-- byte is in both
abbrev pub overlaps : RecvView → ℕ → ℕ → Bool
overlaps side part box =
    nat_lt (box * side.bytes) ((part + 1) * side.size) && nat_lt (part * side.size) ((box + 1) * side.bytes)

abbrev pub next_box_of : RecvView → ℕ → Option ℕ
next_box_of side part =
    if side.active then lowest_from (λ box. is_left side.taken box && overlaps side part box) 0 side.boxes else None

-- each byte of a partition lies in a box that was taken in this phase
abbrev pub HasArrived : RecvView → ℕ → Type 0
HasArrived side part =
    (byte : ℕ) → part * side.size ≤ byte → byte < (part + 1) * side.size
    → (box : ℕ) × (box * side.bytes ≤ byte) × (byte < (box + 1) * side.bytes) × (get_or side.taken box false ≡ true)

-- why a box can't be taken
abbrev pub take_refusal : RecvView → ℕ → Option Code
take_refusal side box =
    if nat_le side.boxes box then Some BadPartition else
    if side.active then (if get_or side.taken box false then Some AlreadyReady else None) else
    Some NotActive

-- a key gets what was seen, with these words
abbrev pub got_of : List ℕ → ℕ → Receiver → Receiver
got_of words stamp key = after_empty (record key { view = record key.view { copied = words } }) stamp

-- of so many boxes with these marks one is left
abbrev pub are_left : List Bool → ℕ → Bool
are_left taken boxes = is_some (lowest_from (is_left taken) 0 boxes)

-- a box is taken; with the last one the phase ends
abbrev pub one_taken : RecvView → ℕ → RecvView
one_taken side box = record side {
  phase = if are_left (set side.taken box true) side.boxes then side.phase else side.phase + 1;
  active = are_left (set side.taken box true) side.boxes;
  taken = if are_left (set side.taken box true) side.boxes then set side.taken box true else none_marked;
}

-- what a take answers by the word that it found in the gate
abbrev pub shown_take : ℕ → List ℕ → Option ℕ → Take
shown_take clock words None = take.Missed (clock + 1)
shown_take clock words (Some stamp) = take.Taken (bytes_of_words words) (max clock stamp + 1)

-- what a take makes of the key of its box, where the gate showed this
abbrev pub lane_shown : ℕ → List ℕ → ℕ → Receiver → Option ℕ → Receiver
lane_shown gate words clock key None = after_look key gate
lane_shown gate words clock key (Some stamp) = got_of words (max clock stamp + 1) (after_look key gate)

abbrev pub lane_took : ℕ → List ℕ → ℕ → Receiver → Receiver
lane_took gate words clock key = lane_shown gate words clock key (ready_stamp gate)

abbrev pub marked : RecvView → ℕ → Option ℕ → RecvView
marked side box None = side
marked side box (Some stamp) = one_taken side box

-- A take looks at the gate of its box, finds this word, and where that shows a thing copies these words. No other box
-- is touched.
abbrev pub took : RecvView → ℕ → ℕ → List ℕ → ℕ → RecvView
took side box gate words clock =
    marked (record side { keys = modified side.keys box (lane_took gate words clock) }) box (ready_stamp gate)

-- the stamp that a take tells
abbrev pub take_stamp : Take → ℕ
take_stamp (take.Missed stamp) = stamp
take_stamp (take.Taken bytes stamp) = stamp

-- in phase k what was taken is what the key of the box got as its thing k
abbrev pub HasGot : RecvView → RecvView → ℕ → Take → Type 0
HasGot old new box (take.Missed stamp) = Unit
HasGot old new box (take.Taken bytes stamp) =
    (key : Receiver) × (got : Got) × (slice_get new.keys box ≡ Some key) × (slice_get key.view.got old.phase ≡ Some got)
    × (bytes ≡ bytes_of_words got.words) × (stamp ≡ got.taken)

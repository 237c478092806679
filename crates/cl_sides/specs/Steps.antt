-- What each step of a rank makes of its sides: one side is changed at most, by what its channel's call says.
use Rattle.std.specs.Prelude.{ℕ, ◌≡◌, ◌<◌, ◌≤◌, ◌-◌, ◌*◌, ◌%◌, ◌^◌, ◌++◌, replicate, ◌==◌, nat_lt, List, [], ◌∷◌}
use Rattle.std.specs.Prelude.{length, map, set, slice_get, Bool, true, false, not, ◌&&◌}
use Rattle.std.specs.Prelude.{Option, Some, None, if◌then◌else◌}
use Rattle.part_box.specs.Gate.{ready_stamp}
use Rattle.part_channel.specs.Channels.{ChannelView, sender_box, receiver_box}
use Rattle.part_channel.specs.declared.progress.Progress.{Progress}
use Rattle.part_channel.specs.declared.progress.Take.{Take}
use Rattle.part_channel.specs.Receiving.{RecvView, IsRecvSide, awaited, shown_take, take_refusal, took, take_stamp}
use Rattle.part_channel.specs.Sending.{SendView, IsSendSide, IsPast, begun, shaped, looks_at, ready_refusal, readied}
use Rattle.part_channel.specs.Sending.{IsTold}
use Rattle.part_channel.specs.Sending.{test_progress, tested}
use Rattle.part_channel.specs.Words.{bytes_of_words}
use Rattle.part_channel.specs.BoxWords.{words_of}
use Rattle.part_phase.specs.declared.receiving.RecvPhase.{RecvPhase}
use Rattle.part_phase.specs.declared.sending.SendPhase.{SendPhase}
use Rattle.cl_sides.specs.Sides.{side_of}

-- the first side of this link is changed
abbrev pub changed_side : {S : Type 0} → ℕ → (S → S) → List (ℕ × S) → List (ℕ × S)
changed_side link change [] = []
changed_side link change (side ∷ sides) =
    if side.0 == link then (side.0, change side.1) ∷ sides else side ∷ changed_side link change sides

-- where the side of this link stands, if there is one
abbrev pub IsPlace : {S : Type 0} → ℕ → List (ℕ × S) → Option ℕ → Type 0
IsPlace link sides None = side_of link sides ≡ None
IsPlace {S} link sides (Some i) =
    (s : S) × (slice_get sides i ≡ Some (link, s)) × (side_of link sides ≡ Some s)
    × ((change : S → S) → set sides i (link, change s) ≡ changed_side link change sides)

-- ---- steps on boxes

-- the sender's side that a rank has of a link, and the channel of that link, which has the boxes of its keys
pub record SenderAt (channels : List ChannelView) (link : ℕ) (sends : List (ℕ × SendView)) : Type 0 where
  pub side : SendView
  pub there : side_of link sends ≡ Some side
  pub channel : ChannelView
  pub joins : slice_get channels link ≡ Some channel
  pub own : map sender_box side.keys ≡ channel.boxes

-- and the receiver's
pub record ReceiverAt (channels : List ChannelView) (link : ℕ) (recvs : List (ℕ × RecvView)) : Type 0 where
  pub side : RecvView
  pub there : side_of link recvs ≡ Some side
  pub channel : ChannelView
  pub joins : slice_get channels link ≡ Some channel
  pub own : map receiver_box side.keys ≡ channel.boxes

abbrev pub keeps_sending : SendView → Type 0
keeps_sending s = IsSendSide s.keys s.parts s.size s.freed s.ready

abbrev pub keeps_receiving : RecvView → Type 0
keeps_receiving r = IsRecvSide r.keys r.parts r.size r.boxes r.bytes r.active r.taken

-- a partition may be made ready with these bytes
pub record MayReady (channels : List ChannelView) (link part : ℕ) (bytes : List ℕ) (clock : ℕ)
    (sends : List (ℕ × SendView)) : Type 0 where
  pub at : SenderAt channels link sends
  pub allowed : ready_refusal at.side part ≡ None
  pub count : length bytes ≡ at.side.size
  pub fits : at.side.size ≤ 8 * at.channel.width
  pub wide : at.channel.width ≤ 16
  pub past : IsPast at.side clock

-- and was made ready at this stamp
pub record IsReadied (channels : List ChannelView) (link part : ℕ) (bytes : List ℕ) (stamp : ℕ)
    (old new : List (ℕ × SendView)) : Type 0 where
  pub at : SenderAt channels link old
  pub kept : keeps_sending at.side
  -- the words spell the bytes
  pub spelled : bytes_of_words (words_of bytes at.channel.width) ≡ bytes ++ replicate (128 - length bytes) 0
  pub made : new ≡ changed_side link (λ s. readied s part (words_of bytes at.channel.width) stamp) old
  pub own : map sender_box (readied at.side part (words_of bytes at.channel.width) stamp).keys ≡ at.channel.boxes
  pub past : IsPast (readied at.side part (words_of bytes at.channel.width) stamp) stamp

-- the lowest partition that isn't freed was made ready, so that a test looks at its box
pub record MayTest (channels : List ChannelView) (link clock : ℕ) (sends : List (ℕ × SendView)) : Type 0 where
  pub at : SenderAt channels link sends
  pub looks : looks_at at.side ≡ true
  pub past : IsPast at.side clock

-- and the test looked, and found this
pub record IsTested (channels : List ChannelView) (link clock : ℕ) (progress : Progress)
    (old new : List (ℕ × SendView)) : Type 0 where
  pub at : SenderAt channels link old
  pub gate : ℕ
  pub kept : keeps_sending at.side
  pub moved : new ≡ changed_side link (λ s. tested s gate) old
  pub found : progress ≡ test_progress at.side clock gate
  pub own : map sender_box (tested at.side gate).keys ≡ at.channel.boxes
  pub told : IsTold (tested at.side gate) progress

-- a box may be taken
pub record MayTake (channels : List ChannelView) (link part : ℕ) (recvs : List (ℕ × RecvView)) : Type 0 where
  pub at : ReceiverAt channels link recvs
  pub allowed : take_refusal at.side part ≡ None

-- and was taken, if a thing was seen in it
pub record IsTaken (channels : List ChannelView) (link part clock : ℕ) (take : Take)
    (old new : List (ℕ × RecvView)) : Type 0 where
  pub at : ReceiverAt channels link old
  pub gate : ℕ
  pub words : List ℕ
  pub kept : keeps_receiving at.side
  pub long : length words ≡ at.channel.width
  pub moved : new ≡ changed_side link (λ r. took r part gate words clock) old
  pub shown : take ≡ shown_take clock words (ready_stamp gate)
  pub own : map receiver_box (took at.side part gate words clock).keys ≡ at.channel.boxes
  pub stamp : (clock < take_stamp take) × (take_stamp take < 2 ^ 62)

-- ---- sides that follow their phases

-- a phase begins. One that is going on goes on
abbrev pub begun_sender : SendView → SendView
begun_sender s = if nat_lt s.freed s.parts then s else begun s

abbrev pub begun_receiver : RecvView → RecvView
begun_receiver r = if r.active then r else awaited r

abbrev pub shaped_receiver : ℕ → ℕ → RecvView → RecvView
shaped_receiver parts size r = record r { parts = parts; size = size }

-- the sender's cut is known
abbrev pub cut_receiver : ℕ → ℕ → RecvView → RecvView
cut_receiver boxes bytes r = record r { boxes = boxes; bytes = bytes }

-- a shape inside the limits
abbrev pub InLimits : ℕ → ℕ → Type 0
InLimits parts size = ((0 < parts) × (parts ≤ 16)) × ((0 < size) × (size ≤ 128) × (size % 8 ≡ 0))

-- the phase got a shape, or its cut
abbrev pub gets : ℕ → ℕ → Bool
gets was now = (was == 0) && not (now == 0)

abbrev pub followed_sender : SendPhase → SendPhase → SendView → SendView
followed_sender was now s = if gets was.parts now.parts then shaped s now.parts now.size else s

abbrev pub followed_receiver : RecvPhase → RecvPhase → RecvView → RecvView
followed_receiver was now r =
    if gets was.parts now.parts then shaped_receiver now.parts now.size r else
    if gets was.boxes now.boxes then cut_receiver now.boxes now.bytes r else
    r

-- a side that gets its shape has none; one that learns the cut has a shape of the same total, and knows none
abbrev pub SendingMay : SendPhase → SendPhase → SendView → Type 0
SendingMay was now s = gets was.parts now.parts ≡ true → (s.parts ≡ 0) × InLimits now.parts now.size

pub record ReceivingMay (was now : RecvPhase) (r : RecvView) : Type 0 where
  pub shape : gets was.parts now.parts ≡ true → ((r.parts ≡ 0) × (r.boxes ≡ 0)) × InLimits now.parts now.size
  pub cut : gets was.parts now.parts ≡ false → gets was.boxes now.boxes ≡ true
      → ((r.boxes ≡ 0) × (now.boxes * now.bytes ≡ r.parts * r.size)) × InLimits now.boxes now.bytes

-- the side of a link on which a phase begins, if it does
abbrev pub begun_at : {S : Type 0} → Option ℕ → (S → S) → List (ℕ × S) → List (ℕ × S)
begun_at None change sides = sides
begun_at (Some link) change sides = changed_side link change sides

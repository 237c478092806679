-- The sides that a rank has of its links: that they go with its phases and its channels, and what their keys know.
use Rattle.std.specs.Prelude.{ℕ, ◌≡◌, ◌≤◌, ◌==◌, ⊤, List, [], ◌∷◌, map, slice_get, Option, Some, None, if◌then◌else◌}
use Rattle.rv_image_types.specs.declared.images.ImageVersion.{ImageVersion}
use Rattle.rv_image_types.specs.declared.images.Link.{Link}
use Rattle.part_box.specs.declared.view.Sending.{Sending}
use Rattle.part_box.specs.declared.view.Receiving.{Receiving}
use Rattle.part_box.specs.Keys.{BoxId, Sender, Receiver}
use Rattle.part_channel.specs.Channels.{ChannelView, sender_box, receiver_box}
use Rattle.part_channel.specs.Receiving.{RecvView, new_recv_side}
use Rattle.part_channel.specs.Sending.{SendView, IsPast, new_send_side}
use Rattle.part_phase.specs.declared.phases.Phase.{Phase}
use Rattle.part_phase.specs.declared.phases.Phase.TheVariants.{Apart, Sending as SendingPhase}
use Rattle.part_phase.specs.declared.phases.Phase.TheVariants.{Receiving as ReceivingPhase}
use Rattle.part_phase.specs.declared.receiving.RecvPhase.{RecvPhase}
use Rattle.part_phase.specs.declared.sending.SendPhase.{SendPhase}
use Rattle.part_phase.specs.Limits.{box_bytes, box_words}
use Rattle.part_phase.specs.Phases.{first_phases}

-- the sides of a rank, each with the number of its link
pub record Sides : Type 0 where
  pub sends : List (ℕ × SendView)
  pub recvs : List (ℕ × RecvView)

abbrev pub sides_in : List (ℕ × SendView) → List (ℕ × RecvView) → Sides
sides_in sends recvs = record { sends = sends; recvs = recvs }

-- the side of a link, if the rank has it
abbrev pub side_of : {S : Type 0} → ℕ → List (ℕ × S) → Option S
side_of link [] = None
side_of link (side ∷ sides) = if side.0 == link then Some side.1 else side_of link sides

-- ---- sides and phases

-- how far a side is in its phase
abbrev pub phase_of_sender : SendView → SendPhase
phase_of_sender s = record { parts = s.parts; size = s.size; ready = s.ready; freed = s.freed }

abbrev pub phase_of_receiver : RecvView → RecvPhase
phase_of_receiver r = record {
  parts = r.parts;
  size = r.size;
  boxes = r.boxes;
  bytes = r.bytes;
  active = r.active;
  taken = r.taken;
}

-- a rank has the side of a link that its phase says, and this is as far as the phase
abbrev pub PhaseFits : Option Phase → Option SendView → Option RecvView → Type 0
PhaseFits (Some (SendingPhase p)) (Some s) None = p ≡ phase_of_sender s
PhaseFits (Some (ReceivingPhase p)) None (Some r) = p ≡ phase_of_receiver r
PhaseFits (Some Apart) None None = ⊤
PhaseFits None None None = ⊤
PhaseFits _ _ _ = ⊥

-- what a rank's sides keep: they go with its phases, a partition has no more bytes than a box, and no stamp that a
-- sender's key stored or saw is above the rank's clock
pub record AreSides (version : ImageVersion) (phases : List Phase) (clock : ℕ) (sides : Sides) : Type 0 where
  pub fit : (link : ℕ) → PhaseFits (slice_get phases link) (side_of link sides.sends) (side_of link sides.recvs)
  pub sizes : (link : ℕ) (s : SendView) → side_of link sides.sends ≡ Some s → s.size ≤ box_bytes version
  pub past : (link : ℕ) (s : SendView) → side_of link sides.sends ≡ Some s → IsPast s clock
  -- a side that has no shape knows no cut
  pub uncut : (link : ℕ) (r : RecvView) → side_of link sides.recvs ≡ Some r → r.parts ≡ 0 → r.boxes ≡ 0

-- the sides of a rank as they are made: of each of its links one, without a shape, whose keys know nothing
pub record AreNewSides (links : List Link) (rank : ℕ) (sides : Sides) : Type 0 where
  pub fit : (link : ℕ) → PhaseFits (slice_get (first_phases links rank) link) (side_of link sides.sends)
      (side_of link sides.recvs)
  pub sends : (link : ℕ) (s : SendView) → side_of link sides.sends ≡ Some s
      → (boxes : List BoxId) × (s ≡ new_send_side boxes)
  pub recvs : (link : ℕ) (r : RecvView) → side_of link sides.recvs ≡ Some r
      → (boxes : List BoxId) × (r ≡ new_recv_side boxes)

-- the channel of each link has the boxes of the rank's side of it, and they have the width that the version says
abbrev pub HasSender : ImageVersion → Option ChannelView → SendView → Type 0
HasSender version None s = ⊥
HasSender version (Some c) s = (c.width ≡ box_words version) × (map sender_box s.keys ≡ c.boxes)

abbrev pub HasReceiver : ImageVersion → Option ChannelView → RecvView → Type 0
HasReceiver version None r = ⊥
HasReceiver version (Some c) r = (c.width ≡ box_words version) × (map receiver_box r.keys ≡ c.boxes)

pub record AreChannelsOf (version : ImageVersion) (channels : List ChannelView) (sides : Sides) : Type 0 where
  pub sends : (link : ℕ) (s : SendView) → side_of link sides.sends ≡ Some s
      → HasSender version (slice_get channels link) s
  pub recvs : (link : ℕ) (r : RecvView) → side_of link sides.recvs ≡ Some r
      → HasReceiver version (slice_get channels link) r

-- ---- keys

abbrev pub sender_view : Option Sender → Option Sending
sender_view None = None
sender_view (Some key) = Some key.view

abbrev pub receiver_view : Option Receiver → Option Receiving
receiver_view None = None
receiver_view (Some key) = Some key.view

abbrev pub sender_key : Option SendView → ℕ → Option Sending
sender_key None part = None
sender_key (Some s) part = sender_view (slice_get s.keys part)

-- what the key of a box knows: the sender's, or the receiver's, if the rank has it
abbrev pub sender_of : Sides → ℕ → ℕ → Option Sending
sender_of sides link part = sender_key (side_of link sides.sends) part

abbrev pub receiver_key : Option RecvView → ℕ → Option Receiving
receiver_key None part = None
receiver_key (Some r) part = receiver_view (slice_get r.keys part)

abbrev pub receiver_of : Sides → ℕ → ℕ → Option Receiving
receiver_of sides link part = receiver_key (side_of link sides.recvs) part

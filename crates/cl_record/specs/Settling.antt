-- What the boxes of all links are left with, by the sides of their ranks.
use Rattle.std.specs.Prelude.{ℕ, ◌≡◌, ◌≢◌, ◌<◌, ◌≤◌, List, length, map, slice_get, Some}
use Rattle.rv_image_types.specs.declared.images.Link.{Link}
use Rattle.rv_image_types.specs.Limits.{most_links}
use Rattle.part_box.specs.declared.settled.Settled.{Settled}
use Rattle.part_channel.specs.Channels.{ChannelView, receiver_box, sender_box}
use Rattle.part_channel.specs.Receiving.{RecvView}
use Rattle.part_channel.specs.Sending.{SendView}
use Rattle.part_channel.specs.Settling.{IsLeft}
use Rattle.cl_rank.specs.RankSides.{side_of}
use Rattle.cl_record.specs.declared.wiring.Ends.{Ends}

-- the first side of a link stands at this place
pub record IsFirstOf {S : Type 0} (link : ℕ) (sides : List (ℕ × S)) (place : ℕ) : Type 0 where
  pub side : S
  pub there : slice_get sides place ≡ Some (link, side)
  pub first : (k : ℕ) (other : ℕ × S) → k < place → slice_get sides k ≡ Some other → other.0 ≢ link

-- the two sides of a link's channel
pub record AreSidesOf (links : List Link) (ends : List Ends) (link : ℕ) (channel : ChannelView) : Type 0 where
  pub l : Link
  pub link_there : slice_get links link ≡ Some l
  pub from : Ends
  pub to : Ends
  pub from_there : slice_get ends l.from ≡ Some from
  pub to_there : slice_get ends l.to ≡ Some to
  pub sends : SendView
  pub receives : RecvView
  pub sends_are : side_of link from.sends.items ≡ Some sends
  pub receives_are : side_of link to.recvs.items ≡ Some receives
  pub sends_own : map sender_box sends.keys ≡ channel.boxes
  pub receives_own : map receiver_box receives.keys ≡ channel.boxes

-- each link has a channel, and the ranks have its two sides
pub record MaySettle (links : List Link) (channels : List ChannelView) (ends : List Ends) : Type 0 where
  pub few : length links ≤ most_links
  pub one_each : length channels ≡ length links
  pub sides : (link : ℕ) (channel : ChannelView) → slice_get channels link ≡ Some channel
      → AreSidesOf links ends link channel

-- a rank has the sender's side of a link, or the receiver's
abbrev pub HasSenderOf : ℕ → List Ends → ℕ → Type 0
HasSenderOf link ends rank =
    (own : Ends) × (side : SendView) × (slice_get ends rank ≡ Some own) × (side_of link own.sends.items ≡ Some side)

abbrev pub HasReceiverOf : ℕ → List Ends → ℕ → Type 0
HasReceiverOf link ends rank =
    (own : Ends) × (side : RecvView) × (slice_get ends rank ≡ Some own) × (side_of link own.recvs.items ≡ Some side)

-- the ends that are left of those that there were: they have the senders' sides of the links from the one number on,
-- and the receivers' of those from the other
abbrev pub Kept : List Ends → List Ends → ℕ → ℕ → Type 0
Kept were now sends recvs =
    (r : ℕ) (was : Ends) → slice_get were r ≡ Some was
    → (is : Ends) × (slice_get now r ≡ Some is)
    × ((link : ℕ) → sends ≤ link → side_of link is.sends.items ≡ side_of link was.sends.items)
    × ((link : ℕ) → recvs ≤ link → side_of link is.recvs.items ≡ side_of link was.recvs.items)

-- what is left in the boxes of a link, by the keys of its two sides
abbrev pub IsLinkSettled : List Link → List Ends → ℕ → ChannelView → List Settled → Type 0
IsLinkSettled links ends link channel left =
    (sides : AreSidesOf links ends link channel) × IsLeft channel.width sides.sends.keys sides.receives.keys left

-- what is left in the boxes of the first links, of which there are as many as there are lists
abbrev pub AreSettled : List Link → List ChannelView → List Ends → List (List Settled) → Type 0
AreSettled links channels ends boxes =
    (link : ℕ) (channel : ChannelView) (left : List Settled)
    → slice_get channels link ≡ Some channel → slice_get boxes link ≡ Some left
    → IsLinkSettled links ends link channel left

pub record IsAllSettled (links : List Link) (channels : List ChannelView) (ends : List Ends)
    (boxes : List (List Settled)) : Type 0 where
  pub count : length boxes ≡ length links
  pub each : AreSettled links channels ends boxes

-- Sides of a channel that may be called.
use Rattle.std.specs.Prelude.{ℕ, ◌≡◌, ◌*◌, ◌-◌, ◌^◌, ◌<◌, ◌≤◌, map}
use Rattle.part_channel.specs.Channels.{ChannelView, receiver_box, sender_box}
use Rattle.part_channel.specs.Receiving.{RecvView}
use Rattle.part_channel.specs.Sending.{IsPast, SendView}

-- the side is the channel's, and the clock is past its stamps
abbrev pub MaySend : SendView → ChannelView → ℕ → Type 0
MaySend side channel clock = (map sender_box side.keys ≡ channel.boxes) × IsPast side clock × (clock < 2 ^ 62 - 1)

-- and its partitions are of 8 bytes, which a box takes
abbrev pub MaySendEight : SendView → ChannelView → ℕ → Type 0
MaySendEight side channel clock = MaySend side channel clock × (side.size ≡ 8) × (8 ≤ 8 * channel.width)

abbrev pub MayTake : RecvView → ChannelView → ℕ → Type 0
MayTake side channel clock = (map receiver_box side.keys ≡ channel.boxes) × (clock < 2 ^ 62 - 1)

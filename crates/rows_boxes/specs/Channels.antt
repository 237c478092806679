-- The sending side of a channel.
use Rattle.std.specs.Prelude.{ℕ, ◌≡◌, ◌*◌, ◌%◌, ◌<◌, ◌≤◌, map}
use Rattle.part_channel.specs.Channels.{ChannelView, sender_box}
use Rattle.part_channel.specs.Sending.{SendView}

-- a side of this channel, whose partitions are of so many bytes, which a box takes
abbrev pub IsSideOf : ChannelView → ℕ → SendView → Type 0
IsSideOf channel size send =
    (map sender_box send.keys ≡ channel.boxes) × (send.size ≡ size) × (size ≤ 128) × (size ≤ 8 * channel.width)

-- so many partitions of so many bytes each, as a side takes them
abbrev pub AreParts : ℕ → ℕ → Type 0
AreParts parts size = (0 < parts) × (parts ≤ 16) × (0 < size) × (size ≤ 128) × (size % 8 ≡ 0)

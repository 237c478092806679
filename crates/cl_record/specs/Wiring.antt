-- The channels of all links, and the sides that each rank has of them before its first turn.
use Rattle.std.specs.Prelude.{ℕ, ◌≡◌, ◌==◌, ⊤, List, length, slice_get, Option, Some, None, if◌then◌else◌}
use Rattle.rv_image_types.specs.declared.images.ImageParts.{ImageParts}
use Rattle.rv_image_types.specs.declared.images.ImageVersion.{ImageVersion}
use Rattle.rv_image_types.specs.declared.images.Link.{Link}
use Rattle.part_channel.specs.Channels.{ChannelView}
use Rattle.part_channel.specs.Receiving.{RecvView, new_recv_side}
use Rattle.part_channel.specs.Sending.{SendView, new_send_side}
use Rattle.part_phase.specs.Limits.{box_words}
use Rattle.cl_rank.specs.RankSides.{Sides, side_of}
use Rattle.cl_record.specs.declared.wiring.Ends.{Ends}
use Rattle.cl_record.specs.declared.wiring.Wiring.{Wiring}

-- a rank has new sides of its own end of a link, over the channel of the link
abbrev pub IsNewEnd : ImageVersion → ℕ → Option Link → Option ChannelView → Option SendView → Option RecvView → Type 0
IsNewEnd version rank None None None None = ⊤
IsNewEnd version rank (Some link) (Some channel) send recv =
    (length channel.boxes ≡ 16)
    × (channel.width ≡ box_words version)
    × (send ≡ (if link.from == rank then Some (new_send_side channel.boxes) else None))
    × (recv ≡ (if link.to == rank then Some (new_recv_side channel.boxes) else None))
IsNewEnd version rank _ _ _ _ = ⊥

-- what a rank has of all links
abbrev pub AreNewEnds : ImageVersion → List Link → List ChannelView → ℕ → Sides → Type 0
AreNewEnds version links channels rank sides =
    (link : ℕ)
    → IsNewEnd version rank (slice_get links link) (slice_get channels link)
    (side_of link sides.sends) (side_of link sides.recvs)

abbrev pub sides_in : Ends → Sides
sides_in ends = record { sends = ends.sends.items; recvs = ends.recvs.items }

-- so many ranks have their ends of these links
pub record IsWired (version : ImageVersion) (ranks : ℕ) (links : List Link) (wiring : Wiring) : Type 0 where
  pub channels_count : length wiring.channels.items ≡ length links
  pub ends_count : length wiring.ends.items ≡ ranks
  pub each : (r : ℕ) (ends : Ends) → slice_get wiring.ends.items r ≡ Some ends
      → AreNewEnds version links wiring.channels.items r (sides_in ends)

-- so many ranks have new ends of the image's links, over these channels
abbrev pub AreAllNew : ImageParts → List ChannelView → List Ends → Type 0
AreAllNew image channels all =
    (r : ℕ) (ends : Ends) → slice_get all r ≡ Some ends
    → AreNewEnds image.version image.links channels r (sides_in ends)

-- Boxes, as their two keys tell them.
use Rattle.std.specs.Prelude.{ℕ, ◌≡◌, ◌<◌, ◌==◌, List, length, map, slice_get, Option, Some, if◌then◌else◌}
use Rattle.rv_image_types.specs.declared.images.ImageVersion.{ImageVersion}
use Rattle.rv_image_types.specs.declared.images.Link.{Link}
use Rattle.part_box.specs.declared.view.Got.{Got}
use Rattle.part_box.specs.declared.view.Made.{Made}
use Rattle.part_box.specs.declared.view.Receiving.{Receiving}
use Rattle.part_box.specs.declared.view.Sending.{Sending}
use Rattle.part_box.specs.LastReady.{last_ready}
use Rattle.part_box.specs.Gate.{last_take}
use Rattle.part_box.specs.Rule.{GateRule}
use Rattle.part_phase.specs.Limits.{box_words}
use Rattle.cl_rank.specs.RankSides.{Sides, sender_of, receiver_of}
use Rattle.cl_machine.specs.Boxes.{Box, Thing}
use Rattle.cl_machine.specs.Keys.{bytes_in}

abbrev pub thing_of : ImageVersion → Made → Thing
thing_of version m = record { stamp = m.stamp; bytes = bytes_in version m.words }

-- the stamp of the last take, or of a thing that was made since
abbrev pub last_stamp : List Made → List Got → ℕ
last_stamp made got = if length made == length got then last_take got else last_ready made

-- the box of which its sender's key and its receiver's know this
abbrev pub box_of : ImageVersion → Sending → Receiving → Box
box_of version s r = record {
  made = map (thing_of version) s.made;
  taken = length r.got;
  stamp = last_stamp s.made r.got;
}

-- what the two keys of a box know of each other
abbrev pub AgreeOn : ImageVersion → Sending → Receiving → Type 0
AgreeOn version s r = (words : List ℕ) × GateRule (box_words version) words s r

-- a rank has the keys of its own side of each of its links, and no others
pub record HasKeysOf (links : List Link) (rank : ℕ) (sides : Sides) : Type 0 where
  pub sends : (link part : ℕ) (l : Link) → slice_get links link ≡ Some l → part < 16 → l.from ≡ rank
      → (s : Sending) × (sender_of sides link part ≡ Some s)
  pub receives : (link part : ℕ) (l : Link) → slice_get links link ≡ Some l → part < 16 → l.to ≡ rank
      → (r : Receiving) × (receiver_of sides link part ≡ Some r)
  pub sends_own : (link part : ℕ) (s : Sending) → sender_of sides link part ≡ Some s
      → (l : Link) × (slice_get links link ≡ Some l) × (part < 16) × (l.from ≡ rank)
  pub receives_own : (link part : ℕ) (r : Receiving) → receiver_of sides link part ≡ Some r
      → (l : Link) × (slice_get links link ≡ Some l) × (part < 16) × (l.to ≡ rank)

-- box number `part` of a link: it is that of its two keys, which agree
pub record IsBoxOf (version : ImageVersion) (from to : Sides) (link part : ℕ) (box : Option Box) : Type 0 where
  pub sender : Sending
  pub receiver : Receiving
  pub sends : sender_of from link part ≡ Some sender
  pub receives : receiver_of to link part ≡ Some receiver
  pub agree : AgreeOn version sender receiver
  pub box_is : box ≡ Some (box_of version sender receiver)

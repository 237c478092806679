-- Boxes as they are left in the end.
use Rattle.std.specs.Prelude.{ℕ, ◌≡◌, ◌<◌, List, length, replicate, slice_get, take, true, false, Some}
use Rattle.rv_image_types.specs.declared.images.ImageParts.{ImageParts}
use Rattle.rv_image_types.specs.declared.images.ImageVersion.{ImageVersion}
use Rattle.part_box.specs.declared.settled.Settled.{Settled}
use Rattle.part_channel.specs.Words.{bytes_of_words}
use Rattle.part_phase.specs.Limits.{box_bytes}
use Rattle.cl_machine.specs.Boxes.{Box, box_number, IsEmpty, Holds}

-- the bytes that the words of a box spell
abbrev pub bytes_in : ImageVersion → List ℕ → List ℕ
bytes_in version words = take (box_bytes version) (bytes_of_words words)

-- what a box is left with shows it: full exactly where one thing that was made wasn't taken, and then with its stamp
-- and its bytes; else with the stamp of the last take, 0 at first, and words 0
pub record Shows (version : ImageVersion) (left : Settled) (box : Box) : Type 0 where
  pub stamp : left.stamp ≡ box.stamp
  pub full : left.full ≡ true → Holds box (bytes_in version left.words)
  pub empty : left.full ≡ false → IsEmpty box × (left.words ≡ replicate 16 0)

-- the boxes of all links, each link's in a list of 16
pub record ShowsAll (image : ImageParts) (left : List (List Settled)) (boxes : List Box) : Type 0 where
  pub links : length left ≡ length image.links
  pub each : (link part : ℕ) → link < length image.links → part < 16
      → (settled : List Settled) × (b : Settled) × (box : Box)
      × (slice_get left link ≡ Some settled) × (slice_get settled part ≡ Some b)
      × (slice_get boxes (box_number link part) ≡ Some box)
      × Shows image.version b box

-- What a deed makes of what the keys of a box know.
use Rattle.std.specs.Prelude.{ℕ, ◌≡◌, ◌<◌, ◌==◌, ◌&&◌, List, length, take, Bool, true, false, Option, Some, None}
use Rattle.rv_image_types.specs.declared.images.ImageVersion.{ImageVersion}
use Rattle.part_box.specs.declared.view.Sending.{Sending}
use Rattle.part_box.specs.declared.view.Receiving.{Receiving}
use Rattle.part_box.specs.Gate.{ready_stamp, taken_stamp}
use Rattle.part_box.specs.Steps.{with_made, with_freed, with_look, with_got}
use Rattle.part_channel.specs.Words.{bytes_of_words}
use Rattle.part_phase.specs.Limits.{box_bytes, box_words}
use Rattle.cl_deeds.specs.Deeds.{Act}

-- ---- keys and deeds

-- the box that an act asks: its link and its number there
abbrev pub box_id_of : Act → Option (ℕ × ℕ)
box_id_of (Act.Ready link part bytes) = Some (link, part)
box_id_of (Act.Take link part gate bytes) = Some (link, part)
box_id_of (Act.Miss link part) = Some (link, part)
box_id_of (Act.Freed link part gate) = Some (link, part)
box_id_of _ = None

abbrev pub is_place : ℕ → ℕ → Option (ℕ × ℕ) → Bool
is_place link part None = false
is_place link part (Some place) = (place.0 == link) && (place.1 == part)

-- what an act on its box makes of the sender's key, one gate word a look: Ready makes a thing of the words that spell
-- its bytes, where the key is open; Freed saw the stamp of the last take; a Miss saw none
abbrev pub SenderActs : ImageVersion → ℕ → Act → Sending → Sending → Type 0
SenderActs version stamp (Act.Ready link part bytes) old new =
    (words : List ℕ)
    × (length words ≡ box_words version)
    × (bytes ≡ take (box_bytes version) (bytes_of_words words))
    × (old.is_open ≡ true)
    × (old.front < stamp)
    × (new ≡ with_made (record old { filled = words }) stamp)
SenderActs version stamp (Act.Freed link part gate) old new =
    (word : ℕ) × (taken_stamp word ≡ Some gate) × (0 < length old.made) × (new ≡ with_freed old word)
SenderActs version stamp (Act.Miss link part) old new =
    (word : ℕ) × (taken_stamp word ≡ None) × (new ≡ with_freed old word)
SenderActs version stamp _ old new = ⊥

-- and of the receiver's: Take saw the stamp of a thing, copied its words and emptied the box; a Miss saw none
abbrev pub ReceiverActs : ImageVersion → ℕ → Act → Receiving → Receiving → Type 0
ReceiverActs version stamp (Act.Take link part gate bytes) old new =
    (word : ℕ) × (words : List ℕ)
    × (ready_stamp word ≡ Some gate)
    × (length words ≡ box_words version)
    × (bytes ≡ take (box_bytes version) (bytes_of_words words))
    × (new ≡ with_got (record (with_look old word) { copied = words }) stamp)
ReceiverActs version stamp (Act.Miss link part) old new =
    (word : ℕ) × (ready_stamp word ≡ None) × (new ≡ with_look old word)
ReceiverActs version stamp _ old new = ⊥

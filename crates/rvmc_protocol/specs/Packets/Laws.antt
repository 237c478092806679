-- The laws of packets.
use Rattle.std.specs.Prelude.{◌≡◌, ◌↔◌, ℕ, ◌≤◌, List, ◌∷◌, ◌++◌, length}
use Rattle.rvmc_protocol.specs.Packets.Texts.{text_of}
use Rattle.rvmc_protocol.specs.Packets.Frames.{Holds, packet_of}
use Rattle.rvmc_protocol.specs.Packets.Reading.{Place, all_told, next_place, outside_of}
use Rattle.rvmc_protocol.specs.declared.packets.reader.Message.{Message}
use Rattle.rvmc_protocol.specs.declared.packets.reader.Message.TheVariants.{Packet}

-- what a stream tells byte by byte is what it holds: all of it, and nothing else
abbrev pub ReadLaw : Type 0
ReadLaw =
    (most : ℕ) (bytes : List ℕ) (messages : List Message)
    → (all_told (outside_of most) bytes ≡ messages) ↔ Holds most bytes messages

-- what is written is read again, whatever the payload, and what stands behind it as well
abbrev pub WrittenLaw : Type 0
WrittenLaw =
    (most : ℕ) (payload rest : List ℕ) (more : List Message) → length (text_of payload) ≤ most → Holds most rest more
    → Holds most (packet_of payload ++ rest) (Packet payload ∷ more)

-- no more is kept than a text may have
abbrev pub KeptLaw : Type 0
KeptLaw =
    (place : Place) (byte : ℕ) → length place.text ≤ place.most
    → length (next_place place byte).text ≤ (next_place place byte).most

use Rattle.std.proofs.Common.{◌≡◌, ◌∷◌, ◌/◌, ◌%◌, List, ℕ, ap, append_assoc, refl, sym}
use Rattle.rvmc_protocol.proofs.Payloads.{carried, summed, text_is_text}
use Rattle.rvmc_protocol.specs.declared.packets.reader.Message.{Message}
use Rattle.rvmc_protocol.specs.declared.packets.reader.Message.TheVariants.{Packet}
use Rattle.rvmc_protocol.specs.Packets.Texts.{digit, digits_of, sum_of, text_of}
use Rattle.rvmc_protocol.specs.Packets.Frames.{message_of, packet, packet_of}
use Rattle.rvmc_protocol.proofs.packets.laws.written_law.Goals as goal

-- its text and its sum tell the payload
told : (payload : List ℕ)
    → message_of (text_of payload) (digit (sum_of (text_of payload) / 16)) (digit (sum_of (text_of payload) % 16)) ≡ Packet payload
unfolding message_of
told payload = rw (summed (text_of payload), carried payload) refl

pub returns : goal.returns
unfolding packet_of
returns c most payload rest more fits held =
    let text = text_of payload in
    packet text (digit (sum_of text / 16)) (digit (sum_of text % 16)) (text_is_text payload) fits
    (append_assoc (36 ∷ text) (35 ∷ digits_of (sum_of text)) rest)
    (ap (λ (message : Message). message ∷ more) (sym (told payload))) held

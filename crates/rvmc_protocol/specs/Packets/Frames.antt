-- Packets in a stream of bytes: a packet is `$`, a text with no `$` and no `#`, `#`, and two digits of the text's sum.
use Rattle.std.specs.Prelude.{◌≡◌, ℕ, ◌<◌, ◌≤◌, ◌==◌, ◌||◌, not, Bool, true, false, if◌then◌else◌, List, [], ◌∷◌, ◌++◌, length, Option, Some, None}
use Rattle.std.specs.List.{list_all}
use Rattle.std.specs.Option.{option_to_list}
use Rattle.rvmc_protocol.specs.Packets.Texts.{digits_of, is_sum, payload_in, sum_of, text_of}
use Rattle.rvmc_protocol.specs.declared.packets.reader.Message.{Message}
use Rattle.rvmc_protocol.specs.declared.packets.reader.Message.TheVariants.{Again, Arrived, Packet, Wrong}

-- the packet of a payload, as it is written
unfoldable pub packet_of : List ℕ → List ℕ
packet_of payload = 36 ∷ text_of payload ++ 35 ∷ digits_of (sum_of (text_of payload))

-- ---- what is read

-- a text has none of the two marks
abbrev pub is_text : List ℕ → Bool
is_text bytes = list_all (λ byte. not (byte == 36 || byte == 35)) bytes

abbrev pub payload_message : Option (List ℕ) → Message
payload_message (Some payload) = Packet payload
payload_message None = Wrong

-- what a text with these two bytes behind its `#` tells: its payload, if they are the digits of its sum
unfoldable pub message_of : List ℕ → ℕ → ℕ → Message
message_of text high low = if is_sum text high low then payload_message (payload_in text) else Wrong

-- a byte outside a packet asks for the last one again, if it is `-`, or says that it has arrived, if it is `+`; every other
-- means nothing
abbrev pub asked : ℕ → Option Message
asked byte = if byte == 45 then Some Again else if byte == 43 then Some Arrived else None

-- What a stream holds, in order, of which a packet's text is at most `most` bytes long.
pub data Holds (most : ℕ) : List ℕ → List Message → Type 0 where
  -- nothing
  nothing : Holds most [] []
  -- a byte outside a packet
  outside : {rest : List ℕ} {more : List Message} {bytes : List ℕ} {messages : List Message} (byte : ℕ)
      → (byte == 36) ≡ false → bytes ≡ byte ∷ rest → messages ≡ option_to_list (asked byte) ++ more
      → Holds most rest more → Holds most bytes messages
  -- a packet
  packet : {rest : List ℕ} {more : List Message} {bytes : List ℕ} {messages : List Message} (text : List ℕ) (high low : ℕ)
      → is_text text ≡ true → length text ≤ most → bytes ≡ 36 ∷ text ++ 35 ∷ high ∷ low ∷ rest
      → messages ≡ message_of text high low ∷ more → Holds most rest more → Holds most bytes messages
  -- a packet that is too long: it is passed over up to its `#`
  long : {rest : List ℕ} {bytes : List ℕ} {messages : List Message} (text : List ℕ)
      → is_text text ≡ true → most < length text → bytes ≡ 36 ∷ text ++ 35 ∷ rest
      → Holds most rest messages → Holds most bytes messages
  -- a packet that breaks off, since another begins
  broken : {rest : List ℕ} {bytes : List ℕ} {messages : List Message} (text : List ℕ)
      → is_text text ≡ true → bytes ≡ 36 ∷ text ++ 36 ∷ rest
      → Holds most (36 ∷ rest) messages → Holds most bytes messages
  -- a packet whose text has no end yet
  unended : {bytes : List ℕ} (text : List ℕ) → is_text text ≡ true → bytes ≡ 36 ∷ text → Holds most bytes []
  -- a packet whose sum isn't whole yet
  unsummed : {bytes : List ℕ} (text rest : List ℕ) → is_text text ≡ true → length text ≤ most → length rest ≤ 1
      → bytes ≡ 36 ∷ text ++ 35 ∷ rest → Holds most bytes []

-- what is answered at once: `+` to a packet and `-` to a wrong one, unless the client wants no such answers
abbrev pub acknowledgement_of : Message → List ℕ
acknowledgement_of (Packet payload) = 43 ∷ []
acknowledgement_of Wrong = 45 ∷ []
acknowledgement_of Again = []
acknowledgement_of Arrived = []

abbrev pub acknowledgement : Bool → Message → List ℕ
acknowledgement wanted message = if wanted then acknowledgement_of message else []

-- Worked packets: texts with their sums as other programs write them, escapes and short runs of the protocol's manual, and
-- streams that hold more than packets.
use Rattle.std.specs.Prelude.{◌≡◌, ℕ, List, [], ◌∷◌, None, Some, codes, refl}
use Rattle.rvmc_protocol.specs.declared.packets.reader.Message.{Message}
use Rattle.rvmc_protocol.specs.declared.packets.reader.Message.TheVariants.{Again, Arrived, Packet, Wrong}
use Rattle.rvmc_protocol.specs.Packets.Frames.{message_of, packet_of}
use Rattle.rvmc_protocol.specs.Packets.Reading.{all_told, outside_of}
use Rattle.rvmc_protocol.specs.Packets.Texts.{escaped, payload_in}

-- ---- packets as they are written

pub nothing : packet_of [] ≡ codes "$#00"
unfolding packet_of
nothing = refl

pub ok : packet_of (codes "OK") ≡ codes "$OK#9a"
unfolding packet_of escaped
ok = refl

pub an_error : packet_of (codes "E01") ≡ codes "$E01#a6"
unfolding packet_of escaped
an_error = refl

pub a_mark_is_escaped : packet_of (codes "#") ≡ 36 ∷ 125 ∷ 3 ∷ codes "#80"
unfolding packet_of escaped
a_mark_is_escaped = refl

-- ---- texts and their payloads

-- the manual's: `0* ` stands for `0000`
pub a_run : payload_in (codes "0* ") ≡ Some (codes "0000")
unfolding payload_in
a_run = refl

pub a_run_behind_a_run : payload_in (codes "0* * ") ≡ Some (codes "0000000")
unfolding payload_in
a_run_behind_a_run = refl

-- the manual's: 0x7d is sent as 0x7d 0x5d
pub an_escape : payload_in (125 ∷ 93 ∷ []) ≡ Some (125 ∷ [])
unfolding payload_in
an_escape = refl

-- a run is written out before the escape is undone: `}` and three more `J`, of which the first is escaped
pub a_run_of_an_escaped_byte : payload_in (codes "}J* ") ≡ Some (codes "jJJJ")
unfolding payload_in
a_run_of_an_escaped_byte = refl

pub a_run_of_nothing : payload_in (codes "* ") ≡ None
unfolding payload_in
a_run_of_nothing = refl

pub a_run_without_a_number : payload_in (codes "0*") ≡ None
unfolding payload_in
a_run_without_a_number = refl

pub an_escape_of_nothing : payload_in (codes "0}") ≡ None
unfolding payload_in
an_escape_of_nothing = refl

-- ---- streams, whose texts have at most 4 bytes

abbrev Tells : List ℕ → List Message → Type 0
Tells bytes messages = all_told (outside_of 4) bytes ≡ messages

pub two_packets : Tells (codes "+$g#67+$?#3f") (Arrived ∷ Packet (codes "g") ∷ Arrived ∷ Packet (codes "?") ∷ [])
unfolding message_of payload_in
two_packets = refl

pub digits_in_either_case : Tells (codes "$OK#9A") (Packet (codes "OK") ∷ [])
unfolding message_of payload_in
digits_in_either_case = refl

pub a_wrong_sum : Tells (codes "$g#68$g#67") (Wrong ∷ Packet (codes "g") ∷ [])
unfolding message_of payload_in
a_wrong_sum = refl

pub no_digits : Tells (codes "$g#6x") (Wrong ∷ [])
unfolding message_of payload_in
no_digits = refl

pub once_more : Tells (codes "-") (Again ∷ [])
once_more = refl

pub arrived : Tells (codes "+-") (Arrived ∷ Again ∷ [])
arrived = refl

-- what else stands outside means nothing: an interrupt too
pub between_packets : Tells (3 ∷ codes "g#67+$g#67") (Arrived ∷ Packet (codes "g") ∷ [])
unfolding message_of payload_in
between_packets = refl

pub four_bytes_fit : Tells (codes "$m0,4#fd") (Packet (codes "m0,4") ∷ [])
unfolding message_of payload_in
four_bytes_fit = refl

pub five_bytes_are_passed_over : Tells (codes "$m0,10#2a$g#67") (Packet (codes "g") ∷ [])
unfolding message_of payload_in
five_bytes_are_passed_over = refl

pub a_packet_that_breaks_off : Tells (codes "$m0,$g#67") (Packet (codes "g") ∷ [])
unfolding message_of payload_in
a_packet_that_breaks_off = refl

pub a_packet_with_no_end : Tells (codes "$g#6") []
a_packet_with_no_end = refl

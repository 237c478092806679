-- Initialisations of partitioned transfers: their pairs, links and cuts (MPI 4.1, chapter 4.2).
use Rattle.std.specs.Prelude.{ℕ, ◌*◌, ◌==◌, ◌&&◌, not, Bool, false, cond, List, length, filter, find, Option, Some}
use Rattle.std.specs.Prelude.{None, option_map}
use Rattle.std.specs.List.{slice_get, list_any, enumerate_from}
use Rattle.rv_image_types.specs.declared.images.Link.{Link}
use Rattle.mp_transfers.specs.declared.sides.Setup.{Setup}
use Rattle.mp_transfers.specs.declared.sides.Side.{Side}

-- the same communicator, source, destination and tag
abbrev pub same_transfer : Setup → Setup → Bool
same_transfer s t = (t.comm == s.comm) && (t.from == s.from) && (t.to == s.to) && (t.tag == s.tag)

-- a side that was initialised before, of the same transfer and on the same side as the new one, or on the other
abbrev pub is_same_side : Setup → Side → Bool
is_same_side s t = same_transfer s t.setup && cond s.sending t.setup.sending (not t.setup.sending)

abbrev pub is_other_side : Setup → Side → Bool
is_other_side s t = same_transfer s t.setup && cond s.sending (not t.setup.sending) t.setup.sending

-- the i-th of one side and the i-th of the other are a pair; refused initialisations aren't among the sides
abbrev pub peer_of : List Side → Setup → Option Side
peer_of sides s = slice_get (filter (is_other_side s) sides) (length (filter (is_same_side s) sides))

abbrev pub is_reserved : List Side → ℕ → Bool
is_reserved sides link = list_any (λ (t : Side). t.link == link) sides

-- a numbered link that joins the two ranks and that no side has
abbrev pub is_for : List Side → Setup → ℕ × Link → Bool
is_for sides s l = (l.1.from == s.from) && (l.1.to == s.to) && not (is_reserved sides l.0)

-- the lowest such link's number
abbrev pub lowest_link : List Link → List Side → Setup → Option ℕ
lowest_link links sides s = option_map (λ (l : ℕ × Link). l.0) (find (is_for sides s) (enumerate_from 0 links))

-- the bytes of the whole transfer
abbrev pub total_bytes : Setup → ℕ
total_bytes s = s.parts * s.size

-- the sides of a pair have one total, which each may cut as it likes
abbrev pub same_total : Setup → Setup → Bool
same_total s t = total_bytes t == total_bytes s

-- ---- how a sender cut its transfer

-- a side that sends over the link
abbrev pub is_sender_over : ℕ → Side → Bool
is_sender_over link t = (t.link == link) && t.setup.sending

-- the side that sends over the link, where it was initialised: a link has one sender for good
abbrev pub sender_over : List Side → ℕ → Option Side
sender_over sides link = find (is_sender_over link) sides

abbrev pub is_to : ℕ → Option Link → Bool
is_to rank None = false
is_to rank (Some l) = l.to == rank

-- whether the image has the link, and the rank receives over it
abbrev pub is_receiver : List Link → ℕ → ℕ → Bool
is_receiver links rank link = is_to rank (slice_get links link)

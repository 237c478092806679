-- What bytes are read as: the image whose text they are, or the first fault in the order of the tests.
use Rattle.std.specs.Prelude.{ℕ, zero, suc, ◌+◌, ◌-◌, ◌*◌, ◌%◌, List, [], ◌∷◌, ◌++◌, length, take, drop, Bool, not}
use Rattle.std.specs.Prelude.{◌&&◌, Option, Some, None, Result, Ok, Err, nat_lt, nat_le, nat_eq, ◌==◌, if◌then◌else◌}
use Rattle.std.specs.Prelude.{slice_index, codes}
use Rattle.std.specs.List.{starts_with, list_any}
use Rattle.std.specs.Int.{Width, w16, w32, byte_len, from_le_bytes}
use Rattle.rv_image.specs.declared.faults.ImageFault.{ImageFault}
use Rattle.rv_image.specs.declared.faults.ImageFault.TheVariants as faults
use Rattle.rv_image.specs.declared.faults.ImageFault.TheVariants.{Magic, Version, Short, Long, Limit, Text, Comm}
use Rattle.rv_image.specs.declared.header.Header.{Header}
use Rattle.rv_image_types.specs.declared.images.ImageVersion.{ImageVersion}
use Rattle.rv_image_types.specs.declared.images.ImageVersion.TheVariants.{One, Two}
use Rattle.rv_image_types.specs.declared.images.Link.{Link}
use Rattle.rv_image_types.specs.declared.images.Symbol.{Symbol}
use Rattle.rv_image_types.specs.declared.images.ImageParts.{ImageParts}
use Rattle.rv_image_types.specs.Image.{data_start, most_symbols}
pub use Rattle.rv_image_types.specs.Names.{is_within}
use Rattle.rv_image_types.specs.Names.{is_symbol_name, name_before}
use Rattle.rv_image_types.specs.Limits.{most_ranks, most_harts, most_comms, most_links, memory_page, most_memory_bytes}

-- ---- the header

-- the byte at an offset
abbrev pub byte_at : ℕ → List ℕ → ℕ
byte_at offset bytes = slice_index bytes offset

-- the number of a width at an offset, low byte first
abbrev pub number_at : Width → ℕ → List ℕ → ℕ
number_at width offset bytes = from_le_bytes width (take (byte_len width) (drop offset bytes))

-- the version of a number that is one's: 1 or 2
abbrev pub version_of : ℕ → ImageVersion
version_of number = if number == 1 then One else Two

-- the header's version and numbers, each at its offset
unfoldable pub header_at : List ℕ → Header
header_at bytes = record {
  version = version_of (number_at w16 4 bytes);
  ranks = byte_at 6 bytes;
  harts = byte_at 7 bytes;
  memory = number_at w32 8 bytes;
  entry = number_at w32 12 bytes;
  text_length = number_at w32 16 bytes;
  init_length = number_at w32 20 bytes;
  comms = byte_at 24 bytes;
  links = byte_at 25 bytes;
  symbols = number_at w16 26 bytes;
}

-- Tests in their order: what has to hold, and the fault where it doesn't. First those of the numbers' limits.
abbrev pub limit_tests : Header → List (Bool × ImageFault)
limit_tests h =
    (is_within 1 most_ranks h.ranks, Limit 6 h.ranks)
    ∷ (is_within 1 most_harts h.harts, Limit 7 h.harts)
    ∷ (
      is_within memory_page most_memory_bytes h.memory
          && (h.memory % memory_page == 0 && nat_le (memory_page * h.harts) h.memory),
      Limit 8 h.memory,
    )
    ∷ (nat_le h.comms most_comms, Limit 24 h.comms)
    ∷ (nat_le h.links most_links, Limit 25 h.links)
    ∷ (nat_le h.symbols (most_symbols h.version), Limit 26 h.symbols)
    ∷ []

-- those of what the memory holds: the text, the initial data, and the entry in the text
abbrev pub place_tests : Header → List (Bool × ImageFault)
place_tests h =
    (nat_lt 0 h.text_length && (h.text_length % 4 == 0 && nat_le h.text_length h.memory), Text 16)
    ∷ (nat_le (data_start h.text_length + h.init_length) h.memory, Text 20)
    ∷ (h.entry % 4 == 0 && nat_lt h.entry h.text_length, Text 12)
    ∷ []

-- the tests of the header's numbers in their order
abbrev pub number_tests : Header → List (Bool × ImageFault)
number_tests h = limit_tests h ++ place_tests h

-- all tests of the header in their order; Short has the input's length
abbrev pub header_tests : List ℕ → List (Bool × ImageFault)
header_tests bytes =
    (nat_le 4 (length bytes), Short (length bytes))
    ∷ (starts_with nat_eq bytes (codes "RVMC"), Magic)
    ∷ (nat_le 6 (length bytes), Short (length bytes))
    ∷ (is_within 1 2 (number_at w16 4 bytes), Version)
    ∷ (nat_le 28 (length bytes), Short (length bytes))
    ∷ number_tests (header_at bytes)

-- the fault of the first test that doesn't hold
abbrev pub first_fault : List (Bool × ImageFault) → Option ImageFault
first_fault [] = None
first_fault (test ∷ tests) = if test.0 then first_fault tests else Some test.1

-- ---- behind the header

infixl 10 ◌>>=◌
abbrev pub ◌>>=◌ : {A B : Type 0} → Result A ImageFault → (A → Result B ImageFault) → Result B ImageFault
(Ok x) >>= f = f x
(Err fault) >>= f = Err fault

-- The first byte and those after it. Here and below `total` is the input's length, for Short.
abbrev pub next_byte : ℕ → List ℕ → Result (ℕ × List ℕ) ImageFault
next_byte total [] = Err (Short total)
next_byte total (byte ∷ rest) = Ok (byte, rest)

-- the first n bytes and those after them
abbrev pub next_bytes : ℕ → ℕ → List ℕ → Result (List ℕ × List ℕ) ImageFault
next_bytes n total bytes = if nat_lt (length bytes) n then Err (Short total) else Ok (take n bytes, drop n bytes)

-- count steps, each from what is read so far and the bytes that are left
unfoldable pub repeated : {A : Type 0} → (A → List ℕ → Result (A × List ℕ) ImageFault) → ℕ → A → List ℕ
    → Result (A × List ℕ) ImageFault
repeated step zero done bytes = Ok (done, bytes)
repeated step (suc count) done bytes = do
  next ← step done bytes
  repeated step count next.0 next.1

-- a rank of the image that was not named before
abbrev pub is_new_rank : ℕ → List ℕ → ℕ → Bool
is_new_rank ranks named rank = nat_lt rank ranks && not (list_any (λ other. other == rank) named)

-- one more member of communicator n
abbrev pub next_member : ℕ → ℕ → ℕ → List ℕ → List ℕ → Result (List ℕ × List ℕ) ImageFault
next_member total ranks n named bytes = do
  rank ← next_byte total bytes
  if is_new_rank ranks named rank.0 then Ok (named ++ rank.0 ∷ [], rank.1) else Err (Comm n)

-- communicator n: how many members, and the members
unfoldable pub comm_at : ℕ → ℕ → ℕ → List ℕ → Result (List ℕ × List ℕ) ImageFault
comm_at total ranks n bytes = do
  count ← next_byte total bytes
  if is_within 1 most_ranks count.0 then repeated (next_member total ranks n) count.0 [] count.1 else Err (Comm n)

-- one more communicator; they are numbered from 1
abbrev pub next_comm : ℕ → ℕ → List (List ℕ) → List ℕ → Result (List (List ℕ) × List ℕ) ImageFault
next_comm total ranks done bytes = do
  comm ← comm_at total ranks (length done + 1) bytes
  Ok (done ++ comm.0 ∷ [], comm.1)

-- where link n leads: to another rank of the image than the one that it leads from
abbrev pub second_rank : ℕ → ℕ → ℕ → ℕ → List ℕ → Result (Link × List ℕ) ImageFault
second_rank total ranks n from bytes = do
  to ← next_byte total bytes
  if nat_lt to.0 ranks && not (to.0 == from) then Ok (record { from = from; to = to.0 }, to.1) else Err (faults.Link n)

-- link n: the rank that it leads from is tested before the other is asked for
unfoldable pub link_at : ℕ → ℕ → ℕ → List ℕ → Result (Link × List ℕ) ImageFault
link_at total ranks n bytes = do
  from ← next_byte total bytes
  if nat_lt from.0 ranks then second_rank total ranks n from.0 from.1 else Err (faults.Link n)

-- one more link; they are numbered from 0
abbrev pub next_link : ℕ → ℕ → List Link → List ℕ → Result (List Link × List ℕ) ImageFault
next_link total ranks done bytes = do
  link ← link_at total ranks (length done) bytes
  Ok (done ++ link.0 ∷ [], link.1)

-- the last symbol's name; where there is none, no bytes, which stand before every name
abbrev pub last_name : List Symbol → List ℕ
last_name [] = []
last_name (symbol ∷ []) = symbol.name
last_name (symbol ∷ symbols) = last_name symbols

-- a symbol whose name is one and stands behind the last one, and whose address is in the memory or at its end
abbrev pub is_next_symbol : ℕ → List ℕ → Symbol → Bool
is_next_symbol memory last symbol =
    is_symbol_name symbol.name && (name_before last symbol.name && nat_le symbol.address memory)

-- the name of symbol n, of so many bytes, and the tests of the symbol as a whole
abbrev pub named_at : ℕ → ℕ → ℕ → List ℕ → ℕ → ℕ → List ℕ → Result (Symbol × List ℕ) ImageFault
named_at total memory n last address size bytes = do
  name ← next_bytes size total bytes
  if is_next_symbol memory last (record { name = name.0; address = address })
      then Ok (record { name = name.0; address = address }, name.1)
      else Err (faults.Symbol n)

-- symbol n: its address and how long its name is, 5 bytes that are asked for together, and the name
unfoldable pub symbol_at : ℕ → ℕ → ℕ → List ℕ → List ℕ → Result (Symbol × List ℕ) ImageFault
symbol_at total memory n last bytes = do
  front ← next_bytes 5 total bytes
  if is_within 1 31 (byte_at 4 front.0)
      then named_at total memory n last (number_at w32 0 front.0) (byte_at 4 front.0) front.1
      else Err (faults.Symbol n)

-- one more symbol; they are numbered from 0
abbrev pub next_symbol : ℕ → ℕ → List Symbol → List ℕ → Result (List Symbol × List ℕ) ImageFault
next_symbol total memory done bytes = do
  symbol ← symbol_at total memory (length done) (last_name done) bytes
  Ok (done ++ symbol.0 ∷ [], symbol.1)

-- all that stands behind the header
unfoldable pub body_at : ℕ → Header → List ℕ → Result ImageParts ImageFault
body_at total h bytes = do
  comms ← repeated (next_comm total h.ranks) h.comms [] bytes
  links ← repeated (next_link total h.ranks) h.links [] comms.1
  text ← next_bytes h.text_length total links.1
  init ← next_bytes h.init_length total text.1
  symbols ← repeated (next_symbol total h.memory) h.symbols [] init.1
  if length symbols.1 == 0
      then Ok (record {
        version = h.version;
        ranks = h.ranks;
        harts = h.harts;
        memory = h.memory;
        entry = h.entry;
        text = text.0;
        init = init.0;
        comms = comms.0;
        links = links.0;
        symbols = symbols.0;
      })
      else Err (Long (total - length symbols.1))

-- ---- all of it

-- goes on where there is no fault
abbrev pub unless : {A : Type 0} → Option ImageFault → Result A ImageFault → Result A ImageFault
unless None read = read
unless (Some fault) read = Err fault

-- what the bytes are read as
unfoldable pub reading : List ℕ → Result ImageParts ImageFault
reading bytes = unless (first_fault (header_tests bytes)) (body_at (length bytes) (header_at bytes) (drop 28 bytes))

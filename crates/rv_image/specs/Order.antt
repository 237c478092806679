-- The tests of all parts of an image's bytes as one table in their order, and the law that reading answers its first
-- failing row.
use Rattle.std.specs.Prelude.{◌≡◌, ℕ, zero, suc, ◌+◌, ◌*◌, List, [], ◌∷◌, ◌++◌, length, take, drop, Bool, not, ◌&&◌}
use Rattle.std.specs.Prelude.{Option, Some, None, Result, Ok, Err, nat_lt, nat_le, ◌==◌, flat_map}
use Rattle.std.specs.List.{range_with_len}
use Rattle.std.specs.Int.{w32}
use Rattle.rv_image.specs.declared.faults.ImageFault.{ImageFault}
use Rattle.rv_image.specs.declared.faults.ImageFault.TheVariants as faults
use Rattle.rv_image.specs.declared.faults.ImageFault.TheVariants.{Short, Long, Comm}
use Rattle.rv_image.specs.declared.header.Header.{Header}
use Rattle.rv_image_types.specs.Names.{is_within, is_symbol_name, name_before}
use Rattle.rv_image_types.specs.Limits.{most_ranks}
use Rattle.rv_image.specs.Reading.{byte_at, number_at, header_at, is_new_rank, header_tests, first_fault, reading}

-- Each row is a test: what has to hold, and the fault where it doesn't. Offsets count from the first byte of the image.

-- the byte at the offset is there
abbrev pub is_there : List ℕ → ℕ → Bool × ImageFault
is_there bytes offset = (nat_lt offset (length bytes), Short (length bytes))

-- member k, from 0, of communicator n, whose members begin at `first`: a rank of the image that no member before it is
abbrev pub member_tests : List ℕ → ℕ → ℕ → ℕ → ℕ → List (Bool × ImageFault)
member_tests bytes ranks n first k =
    is_there bytes (first + k)
    ∷ (is_new_rank ranks (take k (drop first bytes)) (byte_at (first + k) bytes), Comm n)
    ∷ []

-- communicator n, which begins at `start`: how many members, and each member
abbrev pub comm_tests : List ℕ → ℕ → ℕ → ℕ → List (Bool × ImageFault)
comm_tests bytes ranks n start =
    is_there bytes start
    ∷ (is_within 1 most_ranks (byte_at start bytes), Comm n)
    ∷ flat_map (member_tests bytes ranks n (start + 1)) (range_with_len 0 (byte_at start bytes))

-- where a communicator begins that has so many before it; with all of them before, where the links begin
abbrev pub comm_start : List ℕ → ℕ → ℕ
comm_start bytes zero = 28
comm_start bytes (suc before) = comm_start bytes before + 1 + byte_at (comm_start bytes before) bytes

-- the communicators, numbered from 1
abbrev pub comms_tests : List ℕ → Header → List (Bool × ImageFault)
comms_tests bytes h =
    flat_map (λ before. comm_tests bytes h.ranks (before + 1) (comm_start bytes before)) (range_with_len 0 h.comms)

-- link n, which begins at `start`: the rank that it leads from, and another one that it leads to
abbrev pub link_tests : List ℕ → ℕ → ℕ → ℕ → List (Bool × ImageFault)
link_tests bytes ranks n start =
    is_there bytes start
    ∷ (nat_lt (byte_at start bytes) ranks, faults.Link n)
    ∷ is_there bytes (start + 1)
    ∷ (
      nat_lt (byte_at (start + 1) bytes) ranks && not (byte_at (start + 1) bytes == byte_at start bytes),
      faults.Link n,
    )
    ∷ []

-- the links, two bytes each, numbered from 0; the first begins at `start`
abbrev pub links_tests : List ℕ → Header → ℕ → List (Bool × ImageFault)
links_tests bytes h start = flat_map (λ n. link_tests bytes h.ranks n (start + 2 * n)) (range_with_len 0 h.links)

-- the text, which begins at `start`, and the data behind it
abbrev pub parts_tests : List ℕ → Header → ℕ → List (Bool × ImageFault)
parts_tests bytes h start =
    (nat_le (start + h.text_length) (length bytes), Short (length bytes))
    ∷ (nat_le (start + h.text_length + h.init_length) (length bytes), Short (length bytes))
    ∷ []

-- the name of a symbol that begins at `start`: so many bytes as the one behind the address says
abbrev pub name_at : List ℕ → ℕ → List ℕ
name_at bytes start = take (byte_at (start + 4) bytes) (drop (start + 5) bytes)

-- symbol n, which begins at `start`, behind one of the name `last`: 5 bytes, the length, the name's bytes, and then the
-- name, its place in the order, and the address
abbrev pub symbol_tests : List ℕ → ℕ → ℕ → List ℕ → ℕ → List (Bool × ImageFault)
symbol_tests bytes memory n last start =
    (nat_le (start + 5) (length bytes), Short (length bytes))
    ∷ (is_within 1 31 (byte_at (start + 4) bytes), faults.Symbol n)
    ∷ (nat_le (start + 5 + byte_at (start + 4) bytes) (length bytes), Short (length bytes))
    ∷ (is_symbol_name (name_at bytes start), faults.Symbol n)
    ∷ (name_before last (name_at bytes start), faults.Symbol n)
    ∷ (nat_le (number_at w32 start bytes) memory, faults.Symbol n)
    ∷ []

-- where a symbol begins that has so many before it, the first at `first`; with all of them before, where the image ends
abbrev pub symbol_start : List ℕ → ℕ → ℕ → ℕ
symbol_start bytes first zero = first
symbol_start bytes first (suc before) =
    symbol_start bytes first before + 5 + byte_at (symbol_start bytes first before + 4) bytes

-- the name before that of a symbol; no bytes for the first
abbrev pub name_ahead : List ℕ → ℕ → ℕ → List ℕ
name_ahead bytes first zero = []
name_ahead bytes first (suc before) = name_at bytes (symbol_start bytes first before)

-- the symbols, numbered from 0; the first begins at `first`
abbrev pub symbols_tests : List ℕ → Header → ℕ → List (Bool × ImageFault)
symbols_tests bytes h first =
    flat_map (λ n. symbol_tests bytes h.memory n (name_ahead bytes first n) (symbol_start bytes first n))
    (range_with_len 0 h.symbols)

-- nothing behind the end
abbrev pub end_tests : List ℕ → ℕ → List (Bool × ImageFault)
end_tests bytes end = (nat_le (length bytes) end, Long end) ∷ []

-- the text, which begins at `start`, the data, the symbols, and the end
abbrev pub rest_tests : List ℕ → Header → ℕ → List (Bool × ImageFault)
rest_tests bytes h start =
    parts_tests bytes h start
    ++ (symbols_tests bytes h (start + h.text_length + h.init_length)
    ++ end_tests bytes (symbol_start bytes (start + h.text_length + h.init_length) h.symbols))

-- all that stands behind the header
unfoldable pub body_tests : List ℕ → Header → List (Bool × ImageFault)
body_tests bytes h =
    comms_tests bytes h
    ++ (links_tests bytes h (comm_start bytes h.comms) ++ rest_tests bytes h (comm_start bytes h.comms + 2 * h.links))

-- all tests of an image's bytes in their order
unfoldable pub image_tests : List ℕ → List (Bool × ImageFault)
image_tests bytes = header_tests bytes ++ body_tests bytes (header_at bytes)

-- the fault that a reading answers, if any
abbrev pub fault_of : {A : Type 0} → Result A ImageFault → Option ImageFault
fault_of (Ok x) = None
fault_of (Err fault) = Some fault

-- reading answers the fault of the first test that doesn't hold, and none where all of them hold
abbrev pub FirstFaultLaw : Type 0
FirstFaultLaw = (bytes : List ℕ) → fault_of (reading bytes) ≡ first_fault (image_tests bytes)

-- The limits of an image, for contracts; `src/limits.rt` has them for the code
use Rattle.std.specs.Prelude.{ℕ, ◌+◌}

-- ranks of an image, and members of a communicator
abbrev pub most_ranks : ℕ
most_ranks = 8

-- harts of a rank
abbrev pub most_harts : ℕ
most_harts = 4

-- communicators that are kept, which are numbered from 1: communicator 0 isn't
abbrev pub most_comms : ℕ
most_comms = 7

-- numbers of communicators, from 0 on
abbrev pub comm_numbers : ℕ
comm_numbers = most_comms + 1

-- links for partitioned transfers
abbrev pub most_links : ℕ
most_links = 32

-- symbols in version 2
abbrev pub most_symbols_in_two : ℕ
most_symbols_in_two = 1024

-- bytes of a page: the memory of a rank is some whole pages, one at least for each hart
abbrev pub memory_page : ℕ
memory_page = 4096

-- bytes of memory of a rank
abbrev pub most_memory_bytes : ℕ
most_memory_bytes = 1048576

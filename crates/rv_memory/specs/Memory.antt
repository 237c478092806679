-- The memory of a rank: a finite list of bytes, of which the first `text` are the program's text
-- (RISC-V Unprivileged ISA 20191213, 1.4 Memory), and which of its pages are there.
use Rattle.std.proofs.Common.{zero, suc}
use Rattle.std.specs.Int.{bytes_low_first, next_multiple_of}
use Rattle.std.specs.Prelude.{ℕ, ◌+◌, ◌-◌, ◌*◌, ◌/◌, ◌^◌, List, ◌++◌, length, replicate, slice_index, take, drop, Bool}
use Rattle.std.specs.Prelude.{false}
use Rattle.rv_memory.specs.Pages.{written_pages}

-- `pages` has for each 4,096 bytes whether their page is there
pub record Memory : Type 0 where
  pub bytes : List ℕ
  pub text : ℕ
  pub pages : List Bool

-- the value of `count` bytes at an address, lowest first: byte address + i times 256 ^ i, summed over each i below the
-- count
abbrev pub value_at : List ℕ → ℕ → ℕ → ℕ
value_at bytes address zero = 0
value_at bytes address (suc i) = value_at bytes address i + slice_index bytes (address + i) * 256 ^ i

-- the lowest `count` bytes of a value, lowest first
abbrev pub bytes_of : ℕ → ℕ → List ℕ
bytes_of value count = bytes_low_first 0 count value

-- the `count` bytes from an address on
abbrev pub bytes_at : Memory → ℕ → ℕ → List ℕ
bytes_at memory address count = take count (drop address memory.bytes)

-- a list with other bytes from a place on
abbrev pub overwritten : List ℕ → ℕ → List ℕ → List ℕ
overwritten bytes at new = take at bytes ++ new ++ drop (at + length new) bytes

-- the memory with other bytes from an address on, and with the pages that they touch
abbrev pub with_bytes : Memory → ℕ → List ℕ → Memory
with_bytes memory address new = record memory {
  bytes = overwritten memory.bytes address new;
  pages = written_pages memory.pages address (length new);
}

-- where the initial data stands: behind the text, at a multiple of 16
abbrev pub init_start : List ℕ → ℕ
init_start text = next_multiple_of (length text) 16

-- the pages of a rank that is loaded: those that the text and the initial data touch
abbrev pub loaded_pages : ℕ → List ℕ → List ℕ → List Bool
loaded_pages size text init =
    written_pages (written_pages (replicate (size / 4096) false) 0 (length text)) (init_start text) (length init)

-- a rank's memory when it is loaded: the text, the initial data, and zeros elsewhere
abbrev pub loaded_memory : ℕ → List ℕ → List ℕ → Memory
loaded_memory size text init = record {
  bytes =
      text ++ replicate (init_start text - length text) 0 ++ init
      ++ replicate (size - (init_start text + length init)) 0;
  text = length text;
  pages = loaded_pages size text init;
}

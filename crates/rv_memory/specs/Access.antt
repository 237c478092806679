-- What a load, a store, a fetch and a range of bytes answer
-- (RISC-V Unprivileged ISA 20191213, 2.6 Load and Store Instructions; the traps are the emulator's).
use Rattle.std.specs.Prelude.{ℕ, ◌+◌, ◌%◌, ◌==◌, nat_le, nat_lt, if◌then◌else◌, length, Option, Some, None, Bool, not}
use Rattle.std.specs.Prelude.{◌&&◌, ◌||◌, IsTrue}
use Rattle.rv_memory.specs.Memory.{Memory, value_at, bytes_of, with_bytes}
use Rattle.rv_memory.specs.declared.fault.Cause.{Cause}
use Rattle.rv_memory.specs.declared.fault.Cause.TheVariants.{LoadMisaligned, LoadAccess, StoreMisaligned, StoreAccess}
use Rattle.rv_memory.specs.declared.memory.Width.{Width}
use Rattle.rv_memory.specs.declared.memory.Width.TheVariants.{Byte, Half, Word, Double}

-- how many bytes a load or a store moves
abbrev pub size_of : Width → ℕ
size_of Byte = 1
size_of Half = 2
size_of Word = 4
size_of Double = 8

-- the address is a multiple of the size
abbrev pub is_aligned : ℕ → ℕ → Bool
is_aligned address size = address % size == 0

-- `count` bytes from the address on are in the memory
abbrev pub is_inside : Memory → ℕ → ℕ → Bool
is_inside memory address count = nat_le (address + count) (length memory.bytes)

-- the trap of a load: misaligned first, then outside the memory
abbrev pub load_trap : Memory → ℕ → ℕ → Option Cause
load_trap memory address size =
    if not (is_aligned address size) then Some LoadMisaligned
    else (if not (is_inside memory address size) then Some LoadAccess else None)

-- the trap of a store: misaligned first, then outside the memory, then inside the text
abbrev pub store_trap : Memory → ℕ → ℕ → Option Cause
store_trap memory address size =
    if not (is_aligned address size) then Some StoreMisaligned
    else (if not (is_inside memory address size) then Some StoreAccess
    else (if nat_lt address memory.text then Some StoreAccess else None))

-- the memory after a store: the lowest bytes of the value stand at the address
abbrev pub stored : Memory → ℕ → ℕ → ℕ → Memory
stored memory address size value = with_bytes memory address (bytes_of value size)

-- the word at a pc whose four bytes are text
abbrev pub word_at : Memory → ℕ → Option ℕ
word_at memory pc = if nat_le (pc + 4) memory.text then Some (value_at memory.bytes pc 4) else None

-- a range that may be read: it has no bytes, or all of them are in the memory
abbrev pub is_readable : Memory → ℕ → ℕ → Bool
is_readable memory address count = (count == 0) || is_inside memory address count

-- a range that may be written: one that may be read, and none of its bytes is text
abbrev pub is_writable : Memory → ℕ → ℕ → Bool
is_writable memory address count = (count == 0) || (is_inside memory address count && nat_le memory.text address)

abbrev pub IsReadable : Memory → ℕ → ℕ → Type 0
IsReadable memory address count = IsTrue (is_readable memory address count)

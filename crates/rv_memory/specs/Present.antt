-- Ranges that may be written, and those whose pages are there.
use Rattle.std.specs.Prelude.{ℕ, ◌==◌, Bool, ◌&&◌, ◌||◌, IsTrue}
use Rattle.rv_memory.specs.Memory.{Memory}
use Rattle.rv_memory.specs.MorePages.{missing_pages}
use Rattle.rv_memory.specs.Access.{is_inside, is_writable}

-- a range that takes no page when it is written: it has no bytes, or all of them are in the memory, and no page that
-- they touch is missing
abbrev pub is_present : Memory → ℕ → ℕ → Bool
is_present memory address count =
    (count == 0) || (is_inside memory address count && (missing_pages memory.pages address count == 0))

abbrev pub IsWritable : Memory → ℕ → ℕ → Type 0
IsWritable memory address count = IsTrue (is_writable memory address count)

abbrev pub IsPresent : Memory → ℕ → ℕ → Type 0
IsPresent memory address count = IsTrue (is_present memory address count)

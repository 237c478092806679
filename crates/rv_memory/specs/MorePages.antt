-- The pages that a range lacks, and the memory with them.
use Rattle.std.specs.Prelude.{ℕ, ◌+◌, if◌then◌else◌, List, [], ◌∷◌, Bool, not, ◌&&◌}
use Rattle.rv_memory.specs.Pages.{written_pages, touches}
use Rattle.rv_memory.specs.Memory.{Memory}
use Rattle.std.proofs.Common.{suc}

-- the memory with the pages that `count` bytes from an address on touch
abbrev pub with_pages : Memory → ℕ → ℕ → Memory
with_pages memory address count = record memory { pages = written_pages memory.pages address count }

-- how many of the pages that `count` bytes from the address on touch aren't there. The first page of the list has the
-- number `page`
abbrev pub missing_from : ℕ → List Bool → ℕ → ℕ → ℕ
missing_from page [] address count = 0
missing_from page (there ∷ pages) address count =
    (if (touches address count page && not there) then 1 else 0) + missing_from (suc page) pages address count

abbrev pub missing_pages : List Bool → ℕ → ℕ → ℕ
missing_pages pages address count = missing_from 0 pages address count

-- Which of a memory's pages are there. Page p has the 4,096 bytes from address p * 4096 on.
use Rattle.std.proofs.Common.{suc}
use Rattle.std.specs.Prelude.{ℕ, ◌+◌, ◌*◌, nat_lt, List, [], ◌∷◌, Bool, ◌&&◌, ◌||◌}

-- of `count` bytes from the address on, one at least is in the page
abbrev pub touches : ℕ → ℕ → ℕ → Bool
touches address count page =
    nat_lt 0 count && (nat_lt (page * 4096) (address + count) && nat_lt address ((page + 1) * 4096))

-- the pages that are there when `count` bytes from the address on have been written: those that were, and those that
-- the bytes touch. The first page of the list has the number `page`
abbrev pub written_from : ℕ → List Bool → ℕ → ℕ → List Bool
written_from page [] address count = []
written_from page (there ∷ pages) address count =
    (there || touches address count page) ∷ written_from (suc page) pages address count

abbrev pub written_pages : List Bool → ℕ → ℕ → List Bool
written_pages pages address count = written_from 0 pages address count

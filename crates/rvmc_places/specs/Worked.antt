-- Worked names and places.
use Rattle.std.specs.Prelude.{ℕ, ◌≡◌, List, [], ◌∷◌, codes, map, refl, Option, Some, None}
use Rattle.std.specs.Fmt.{digits}
use Rattle.rv_image_types.specs.declared.images.Symbol.{Symbol}
use Rattle.rvmc_places.specs.Names.{Line, line_named}
use Rattle.rvmc_places.specs.Places.{line_at, nearest_of, place_name, named_address_text}

abbrev line : List ℕ → List ℕ → Option Line
line file number = Some (record { file = file; number = number })

-- names of lines
pub lines_named : map line_named (codes "farm.c.46" ∷ codes "farm.c.46.3" ∷ codes "a.b.inc.7" ∷ [])
    ≡ line (codes "farm.c") (codes "46") ∷ line (codes "farm.c") (codes "46") ∷ line (codes "a.b.inc") (codes "7") ∷ []
unfolding line_named
lines_named = refl

-- functions, static variables of one, and what gcc makes of functions
pub labels_named : map line_named
    (codes "worker" ∷ codes "count.0" ∷ codes "count.12" ∷ codes "work.part.1" ∷ codes "work.constprop.0"
    ∷ codes "farm.c" ∷ codes "farm.c.0" ∷ codes "farm.c." ∷ codes ".12" ∷ [])
    ≡ None ∷ None ∷ None ∷ None ∷ None ∷ None ∷ None ∷ None ∷ None ∷ []
unfolding line_named
labels_named = refl

-- `worker` at 0x20 with line 46 at its begin and again at 0x30, line 50 at 0x2c, and `MPI_Send` at 0x40
abbrev symbols : List Symbol
symbols =
    record { address = 0x40; name = codes "MPI_Send" }
    ∷ record { address = 0x20; name = codes "farm.c.46" }
    ∷ record { address = 0x30; name = codes "farm.c.46.2" }
    ∷ record { address = 0x2c; name = codes "farm.c.50" }
    ∷ record { address = 0x20; name = codes "worker" }
    ∷ []

pub places : map (place_name symbols) (0x1c ∷ 0x20 ∷ 0x28 ∷ 0x2c ∷ 0x3c ∷ 0x40 ∷ 0x5c ∷ [])
    ≡ codes "0x1c" ∷ codes "farm.c:46 in worker" ∷ codes "farm.c:46 in worker" ∷ codes "farm.c:50 in worker"
    ∷ codes "farm.c:46 in worker" ∷ codes "MPI_Send+0x0" ∷ codes "MPI_Send+0x1c" ∷ []
unfolding line_named nearest_of line_at place_name digits
places = refl

pub spots : map (named_address_text symbols) (0x1c ∷ 0x28 ∷ 0x5c ∷ [])
    ≡ codes "0x1c" ∷ codes "farm.c:46 in worker [0x28]" ∷ codes "MPI_Send+0x1c [0x5c]" ∷ []
unfolding line_named nearest_of line_at place_name named_address_text digits
spots = refl

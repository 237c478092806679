-- Worked calls by the program itself.
use Rattle.std.specs.Prelude.{◌≡◌, ℕ, List, [], ◌∷◌, codes, refl, Option, None, Some}
use Rattle.std.specs.Fmt.{digits}
use Rattle.rv_image_types.specs.declared.images.Symbol.{Symbol}
use Rattle.rvmc_places.specs.Names.{line_named}
use Rattle.rvmc_places.specs.OwnCalls.{made_text, own_call_from, own_call_text}
use Rattle.rvmc_places.specs.Places.{line_at, named_address_text, nearest_of, place_name}
use Rattle.rvmc_places.specs.declared.frames.Frame.{Frame}
use Rattle.rvmc_places.specs.declared.own_calls.OwnCall.{OwnCall}

-- MPI_Barrier and a function that it calls, behind `main` with one line
abbrev symbols : List Symbol
symbols =
    record { address = 0x40; name = codes "MPI_Barrier" }
    ∷ record { address = 0x10; name = codes "coll.c.15" }
    ∷ record { address = 0x10; name = codes "main" }
    ∷ record { address = 0x80; name = codes "rvmc_wait" }
    ∷ []

-- a frame that returns here
abbrev returning : ℕ → Frame
returning back = record { pointer = 0; back = back; above = 0 }

abbrev call : ℕ → ℕ → Option OwnCall
call at inner = Some (record { at = at; inner = inner })

-- from the function in the library to MPI_Barrier, and from there to `main`
pub through_the_library : own_call_from symbols 0x88 (returning 0x50 ∷ returning 0x20 ∷ returning 0x14 ∷ [])
    ≡ call 0x1c 0x4c
unfolding line_named nearest_of line_at
through_the_library = refl

pub from_the_library_alone : own_call_from symbols 0x88 (returning 0x50 ∷ returning 0x44 ∷ []) ≡ None
unfolding line_named nearest_of line_at
from_the_library_alone = refl

pub its_text : own_call_text symbols 0x88 (codes "RECV") (call 0x1c 0x4c) ≡ codes "coll.c:15 in main, in MPI_Barrier,"
unfolding line_named nearest_of line_at place_name
its_text = refl

-- a call that `main` makes itself, and one that has no line
pub in_a_line : own_call_text symbols 0x14 (codes "RECV") None ≡ codes "coll.c:15 in main,"
unfolding line_named nearest_of line_at place_name made_text
in_a_line = refl

pub in_no_line : own_call_text symbols 0x88 (codes "RECV") None ≡ codes "rvmc_wait+0x8 [0x88] in RECV"
unfolding line_named nearest_of line_at place_name named_address_text made_text digits
in_no_line = refl

-- The call by which the program itself came to where a hart is in the library.
use Rattle.std.specs.Prelude.{ℕ, if◌then◌else◌, Bool, false, true, List, [], ◌∷◌, ◌++◌, codes, Option, None, Some}
use Rattle.rv_hart.specs.State.{State}
use Rattle.rv_image_types.specs.declared.images.Symbol.{Symbol}
use Rattle.rv_memory.specs.Memory.{Memory}
use Rattle.rvmc_places.specs.Places.{is_some_line, line_at, named_address_text, nearest_of, place_name}
use Rattle.rvmc_places.specs.declared.near.Kind.TheVariants as kind
use Rattle.rvmc_places.specs.Frames.{frames}
use Rattle.rvmc_places.specs.Ways.{called_at}
use Rattle.rvmc_places.specs.declared.frames.Frame.{Frame}
use Rattle.rvmc_places.specs.declared.own_calls.OwnCall.{OwnCall}

-- the program's own sources have lines, and the library has none
abbrev pub has_line : List Symbol → ℕ → Bool
has_line symbols at = is_some_line (line_at symbols at)

-- of a place, and the frames above it: the first call by the program itself, and where it led to
abbrev pub own_call_from : List Symbol → ℕ → List Frame → Option OwnCall
own_call_from symbols inner [] = None
own_call_from symbols inner (frame ∷ chain) =
    if has_line symbols (called_at frame)
    then Some (record { at = called_at frame; inner = inner })
    else own_call_from symbols (called_at frame) chain

-- of a hart, unless it is in the program itself
unfoldable pub own_call : List Symbol → Memory → State → Option OwnCall
own_call symbols memory hart =
    if has_line symbols hart.pc then None else own_call_from symbols hart.pc (frames symbols memory hart)

-- whether a hart is in the library, and the program's own call that led there is known
abbrev pub is_some_call : Option OwnCall → Bool
is_some_call None = false
is_some_call (Some call) = true

unfoldable pub is_in_library : List Symbol → Memory → State → Bool
is_in_library symbols memory hart = is_some_call (own_call symbols memory hart)

-- ---- texts

-- where a call is made: `first.c:7 in main,`, or by the name that the machine has for the call `meet+0x20 [0x30] in RECV`
unfoldable pub made_text : List Symbol → ℕ → List ℕ → List ℕ
made_text symbols at name =
    if has_line symbols at then place_name symbols at ++ codes ","
    else named_address_text symbols at ++ (codes " in " ++ name)

-- `, in MPI_Barrier,`
abbrev pub inner_text : Option Symbol → List ℕ
inner_text None = codes ","
inner_text (Some label) = codes ", in " ++ (label.name ++ codes ",")

-- `coll.c:15 in main, in MPI_Barrier,`, or where the hart makes a call of this name itself
abbrev pub own_call_text : List Symbol → ℕ → List ℕ → Option OwnCall → List ℕ
own_call_text symbols pc name None = made_text symbols pc name
own_call_text symbols pc name (Some call) =
    place_name symbols call.at ++ inner_text (nearest_of kind.Label symbols call.inner)

unfoldable pub own_place_text : List Symbol → Memory → State → List ℕ → List ℕ
own_place_text symbols memory hart name = own_call_text symbols hart.pc name (own_call symbols memory hart)

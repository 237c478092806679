-- The text of a place of a program: the line that it belongs to, in which function; or how far behind which label it is.
use Rattle.std.specs.Prelude.{ℕ, ◌-◌, ◌&&◌, nat_le, nat_lt, if◌then◌else◌, not, Bool, true, false, List, [], ◌∷◌, ◌++◌, codes}
use Rattle.std.specs.Prelude.{Option, Some, None, find, map, option_map}
use Rattle.std.specs.Fmt.{digits}
use Rattle.std.specs.List.{filter}
use Rattle.std.specs.Str.{bytes_eq}
use Rattle.rv_image_types.specs.declared.images.Symbol.{Symbol}
use Rattle.rvmc_places.specs.declared.near.Kind.{Kind}
use Rattle.rvmc_places.specs.declared.near.Kind.TheVariants as kind
use Rattle.rvmc_places.specs.Names.{Line, line_named}

-- ---- the nearest symbol

-- whether the symbol is at the address or before it, and nearer than what was found
abbrev pub is_nearer : ℕ → Option Symbol → Symbol → Bool
is_nearer at None symbol = nat_le symbol.address at
is_nearer at (Some found) symbol = nat_le symbol.address at && nat_lt found.address symbol.address

abbrev pub nearer : ℕ → Option Symbol → Symbol → Option Symbol
nearer at found symbol = if is_nearer at found symbol then Some symbol else found

abbrev pub nearest_from : ℕ → Option Symbol → List Symbol → Option Symbol
nearest_from at found [] = found
nearest_from at found (symbol ∷ symbols) = nearest_from at (nearer at found symbol) symbols

-- the symbol at the address or nearest before it, and of several at one address the first
abbrev pub nearest : ℕ → List Symbol → Option Symbol
nearest at symbols = nearest_from at None symbols

-- ---- lines and labels

abbrev pub is_some_line : Option Line → Bool
is_some_line None = false
is_some_line (Some line) = true

-- a symbol of a line, or a label
abbrev pub is_kind : Kind → Symbol → Bool
is_kind kind.Line symbol = is_some_line (line_named symbol.name)
is_kind kind.Label symbol = not (is_some_line (line_named symbol.name))

-- the nearest of one kind
unfoldable pub nearest_of : Kind → List Symbol → ℕ → Option Symbol
nearest_of wanted symbols at = nearest at (filter (is_kind wanted) symbols)

-- ---- the line of a place

-- whether a line isn't that of a function before the label
abbrev pub is_inside : Option Symbol → Symbol → Bool
is_inside None line = true
is_inside (Some label) line = nat_le label.address line.address

abbrev pub line_within : Option Symbol → Option Symbol → Option Line
line_within label None = None
line_within label (Some line) = if is_inside label line then line_named line.name else None

-- the line that an address belongs to: that of the nearest symbol of a line, unless a label stands between
unfoldable pub line_at : List Symbol → ℕ → Option Line
line_at symbols at = line_within (nearest_of kind.Label symbols at) (nearest_of kind.Line symbols at)

-- ---- where a line begins

abbrev pub is_line : List ℕ → List ℕ → Option Line → Bool
is_line file number None = false
is_line file number (Some line) = bytes_eq line.file file && bytes_eq line.number number

-- a symbol of a line, as `farm.c.46` or `farm.c.46.2` of `farm.c:46`
abbrev pub begins_line : List ℕ → List ℕ → Symbol → Bool
begins_line file number symbol = is_line file number (line_named symbol.name)

-- the addresses at which a line begins, in the order of the symbols' names: first `farm.c.46`
abbrev pub line_starts : List ℕ → List ℕ → List Symbol → List ℕ
line_starts file number symbols = map (λ symbol. symbol.address) (filter (begins_line file number) symbols)

-- the first of them
abbrev pub line_start : List ℕ → List ℕ → List Symbol → Option ℕ
line_start file number symbols = option_map (λ symbol. symbol.address) (find (begins_line file number) symbols)

-- ---- texts

-- an address, as `0x1c`
abbrev pub hex_text : ℕ → List ℕ
hex_text at = codes "0x" ++ digits 16 false at

-- `worker+0x24`, or an address without a label
abbrev pub label_text : Option Symbol → ℕ → List ℕ
label_text None at = hex_text at
label_text (Some label) at = label.name ++ (codes "+" ++ hex_text (at - label.address))

-- ` in worker`
abbrev pub function_text : Option Symbol → List ℕ
function_text None = []
function_text (Some label) = codes " in " ++ label.name

-- `farm.c:46 in worker`, or the label
abbrev pub text_by : Option Symbol → Option Line → ℕ → List ℕ
text_by label None at = label_text label at
text_by label (Some line) at = line.file ++ (codes ":" ++ (line.number ++ function_text label))

-- a place: `farm.c:46 in worker`, `worker+0x24` where no line is known, `0x344` where no label is
unfoldable pub place_name : List Symbol → ℕ → List ℕ
place_name symbols at = text_by (nearest_of kind.Label symbols at) (line_at symbols at) at

-- the address behind it, unless it is the place's only name
abbrev pub bracketed : ℕ → List ℕ
bracketed at = codes " [" ++ (hex_text at ++ codes "]")

abbrev pub address_behind : Option Symbol → Option Line → ℕ → List ℕ
address_behind None None at = []
address_behind label line at = bracketed at

-- `farm.c:46 in worker [0x344]`
unfoldable pub named_address_text : List Symbol → ℕ → List ℕ
named_address_text symbols at =
    place_name symbols at ++ address_behind (nearest_of kind.Label symbols at) (line_at symbols at) at

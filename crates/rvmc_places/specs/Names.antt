-- What the name of a symbol says: `farm.c.46` is line 46 of farm.c, and `farm.c.46.2` is where the program comes back
-- to it. All other names are those of labels: functions, variables, and what `.globl` names.
use Rattle.std.specs.Prelude.{ℕ, ◌+◌, ◌==◌, ◌&&◌, ◌||◌, not, if◌then◌else◌, Bool, true, false, List, [], ◌∷◌, drop, length, take}
use Rattle.std.specs.Prelude.{Option, Some, None}
use Rattle.std.specs.List.{list_all}
use Rattle.rv_image_types.specs.Names.{is_digit, is_within}

-- ---- the parts between dots

-- the place of the last dot of a text, where `found` is that of the dots before it, and `at` bytes are before it
abbrev pub last_dot_from : ℕ → Option ℕ → List ℕ → Option ℕ
last_dot_from at found [] = found
last_dot_from at found (byte ∷ bytes) = last_dot_from (at + 1) (if byte == 46 then Some at else found) bytes

abbrev pub last_dot : List ℕ → Option ℕ
last_dot text = last_dot_from 0 None text

-- what stands before a dot, and what behind it
abbrev pub parts_at : List ℕ → Option ℕ → Option (List ℕ × List ℕ)
parts_at text None = None
parts_at text (Some dot) = Some (take dot text, drop (dot + 1) text)

-- of the last dot
abbrev pub parted : List ℕ → Option (List ℕ × List ℕ)
parted text = parts_at text (last_dot text)

-- ---- numbers and files

abbrev pub begins_with_zero : List ℕ → Bool
begins_with_zero [] = true
begins_with_zero (byte ∷ bytes) = byte == 48

-- digits, the first of which is no 0
abbrev pub is_number : List ℕ → Bool
is_number text = not (begins_with_zero text) && list_all is_digit text

abbrev pub is_letter : ℕ → Bool
is_letter byte = is_within 97 122 byte || is_within 65 90 byte

-- `c`, `h`, `inc`: gcc ends the names of functions that it makes in longer words, as `part` and `constprop`
abbrev pub is_extension : List ℕ → Bool
is_extension text = is_within 1 3 (length text) && list_all is_letter text

abbrev pub is_file_parted : Option (List ℕ × List ℕ) → Bool
is_file_parted None = false
is_file_parted (Some parts) = is_extension parts.1

-- a text that ends in a dot and an extension
abbrev pub is_file : List ℕ → Bool
is_file text = is_file_parted (parted text)

-- ---- lines

-- a line of a source: its file, and its number as it is written
pub record Line : Type 0 where
  pub file : List ℕ
  pub number : List ℕ

-- `farm.c` and `46`
abbrev pub line_parted : Option (List ℕ × List ℕ) → Option Line
line_parted None = None
line_parted (Some parts) =
    if (is_number parts.1 && is_file parts.0) then Some (record { file = parts.0; number = parts.1 }) else None

-- behind the line's number may stand a second one: how often the program came to that line
abbrev pub line_again : Option (List ℕ × List ℕ) → Option Line
line_again None = None
line_again (Some parts) = if is_number parts.1 then line_parted (parted parts.0) else None

abbrev pub first_line : Option Line → Option Line → Option Line
first_line (Some line) other = Some line
first_line None other = other

-- the line that a name is of
unfoldable pub line_named : List ℕ → Option Line
line_named name = first_line (line_parted (parted name)) (line_again (parted name))

-- How bytes of a guest stand in a page.
use Rattle.std.specs.Prelude.{ℕ, ◌==◌, ◌&&◌, ◌||◌, nat_le, if◌then◌else◌, Bool, List, [], ◌∷◌}
use Rattle.std.specs.List.{flat_map}
use Rattle.rvmc_picture.specs.Below.{padded_hex}

-- letters, digits, space, `$`, `_` and what stands from `(` to `;` in ASCII: none is markup, or ends a text of a script
abbrev pub is_unescaped : ℕ → Bool
is_unescaped byte =
    (byte == 32) || (byte == 36) || (nat_le 40 byte && nat_le byte 59) || (nat_le 65 byte && nat_le byte 90)
    || (byte == 95) || (nat_le 97 byte && nat_le byte 122)

-- such a byte stands for itself, any other is written as `\x3c`
unfoldable pub spelled_byte : ℕ → List ℕ
spelled_byte byte = if is_unescaped byte then byte ∷ [] else 92 ∷ 120 ∷ padded_hex 2 byte

-- of a text of several lines: a newline ends a line
unfoldable pub escaped_in_lines : ℕ → List ℕ
escaped_in_lines byte = if (byte == 10) then 10 ∷ [] else spelled_byte byte

-- bytes as two hex digits each
abbrev pub hex_pairs : List ℕ → List ℕ
hex_pairs bytes = flat_map (padded_hex 2) bytes

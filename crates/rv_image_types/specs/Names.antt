-- The names of symbols, and their order: that of the bytes, as in a dictionary.
use Rattle.std.specs.Prelude.{ℕ, List, [], ◌∷◌, length, Bool, false, not, ◌&&◌, ◌||◌, nat_le, ◌==◌}
use Rattle.std.specs.List.{list_all}
use Rattle.std.specs.List.Sorted.{IsStrictlySortedBy}
use Rattle.std.specs.Ordering.{is_lt, nat_cmp}
use Rattle.std.specs.Cmp.Lexicographic.{slice_cmp}

abbrev pub is_within : ℕ → ℕ → ℕ → Bool
is_within least most n = nat_le least n && nat_le n most

-- 0 to 9
abbrev pub is_digit : ℕ → Bool
is_digit byte = is_within 48 57 byte

-- a letter, a digit, `_`, `.` or `$`
abbrev pub is_name_byte : ℕ → Bool
is_name_byte byte =
    is_within 97 122 byte
    || (is_within 65 90 byte || (is_digit byte || ((byte == 95) || ((byte == 46) || (byte == 36)))))

-- the first byte of a name is no digit
abbrev pub begins_with_digit : List ℕ → Bool
begins_with_digit [] = false
begins_with_digit (byte ∷ bytes) = is_digit byte

-- a symbol's name: 1 to 31 bytes of names, of which the first is no digit
abbrev pub is_symbol_name : List ℕ → Bool
is_symbol_name name = is_within 1 31 (length name) && (list_all is_name_byte name && not (begins_with_digit name))

-- whether a name stands before another: at the first byte that differs it has the lower one, or it ends where the other
-- goes on
abbrev pub name_before : List ℕ → List ℕ → Bool
name_before earlier later = is_lt (slice_cmp nat_cmp earlier later)

-- each name stands before all those after it, so none stands twice
abbrev pub RisingNames : List (List ℕ) → Type 0
RisingNames names = IsStrictlySortedBy (slice_cmp nat_cmp) names

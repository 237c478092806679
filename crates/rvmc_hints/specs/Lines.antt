-- The words of a source's line: what begins and continues them, and which are numbers or labels.
use Rattle.std.specs.Prelude.{ℕ, ◌==◌, ◌||◌, not, if◌then◌else◌, Bool, false, List, [], ◌∷◌}
use Rattle.rvmc_hints.specs.Words.{between}

-- letters, digits, `_`, `.` and `$`
abbrev pub is_name_byte : ℕ → Bool
is_name_byte byte =
    (between 97 122 byte || (between 65 90 byte || between 48 57 byte))
    || ((byte == 95) || ((byte == 46) || (byte == 36)))

-- these, and the sign of a number
abbrev pub is_word_byte : ℕ → Bool
is_word_byte byte = is_name_byte byte || (byte == 45)

-- a blank or a tab
abbrev pub is_blank : ℕ → Bool
is_blank byte = (byte == 32) || (byte == 9)

-- these, and `,`, `:`, `(`, `)` and `+`
abbrev pub is_sign : ℕ → Bool
is_sign byte =
    is_blank byte || ((byte == 44) || ((byte == 58) || ((byte == 40) || ((byte == 41) || (byte == 43)))))

-- a byte that is in no word and is no sign begins a comment, by `#`, or a string, by `"`, or nothing
abbrev pub begins_nothing : ℕ → Bool
begins_nothing byte = not (is_word_byte byte || (is_sign byte || ((byte == 35) || (byte == 34))))

-- it begins with a digit or a sign
abbrev pub is_number : List ℕ → Bool
is_number [] = false
is_number (byte ∷ bytes) = between 48 57 byte || (byte == 45)

-- the first byte but blanks and tabs is a colon: so it is behind a label
abbrev pub begins_with_colon : List ℕ → Bool
begins_with_colon [] = false
begins_with_colon (byte ∷ bytes) = if is_blank byte then begins_with_colon bytes else byte == 58

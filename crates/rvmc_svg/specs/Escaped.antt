-- How each byte is made one that XML allows.
use Rattle.std.specs.Prelude.{ℕ, ◌==◌, ◌&&◌, nat_le, if◌then◌else◌, List, [], ◌∷◌, codes}

-- any other byte is a dot
abbrev pub safe_byte : ℕ → ℕ
safe_byte byte = if (byte == 10) then byte else (if nat_le 32 byte && nat_le byte 126 then byte else 46)

-- what would be markup is written as an entity (2.4)
unfoldable pub escaped : ℕ → List ℕ
escaped byte =
    if (byte == 38) then codes "&amp;" else
    (if (byte == 60) then codes "&lt;" else
    (if (byte == 62) then codes "&gt;" else
    (if (byte == 34) then codes "&quot;" else safe_byte byte ∷ [])))

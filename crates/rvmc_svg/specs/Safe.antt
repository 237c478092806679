-- Bytes of an XML text (W3C, Extensible Markup Language 1.0, fifth edition).
use Rattle.std.specs.Prelude.{ℕ, ◌≡◌, ◌≤◌, ◌⊎◌}

-- a newline, or a printed character of ASCII: of the characters that 2.2 allows those that every encoding has in one byte
abbrev pub IsAllowed : ℕ → Type 0
IsAllowed byte = (byte ≡ 10) ⊎ ((32 ≤ byte) × (byte ≤ 126))

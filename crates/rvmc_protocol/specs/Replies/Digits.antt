-- Bytes and registers in hexadecimal digits, two for each byte.
use Rattle.std.specs.Prelude.{ℕ, List}
use Rattle.std.specs.Int.{w64, to_le_bytes}
use Rattle.hex.specs.Hex.{encode_lower}

-- a register has 64 bits, the low byte first
abbrev pub register_text : ℕ → List ℕ
register_text value = encode_lower (to_le_bytes w64 value)

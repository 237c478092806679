-- What a client reads of the digits.
use Rattle.std.specs.Prelude.{◌≡◌, ℕ, ◌<◌, ◌^◌, List, Ok}
use Rattle.std.specs.Int.{w64, from_le_bytes, to_le_bytes}
use Rattle.hex.specs.Hex.{IsBytes, decode_of, encode_lower}
use Rattle.rvmc_protocol.specs.Replies.Digits.{register_text}

-- the bytes, and the register's bytes and the number that they are
pub record DigitsLaw : Type 0 where
  pub bytes : (bytes : List ℕ) → IsBytes bytes → decode_of (encode_lower bytes) ≡ Ok bytes
  pub register : (value : ℕ) → value < 2 ^ 64
      → (decode_of (register_text value) ≡ Ok (to_le_bytes w64 value)) × (from_le_bytes w64 (to_le_bytes w64 value) ≡ value)

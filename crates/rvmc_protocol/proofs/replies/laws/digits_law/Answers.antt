use Rattle.std.proofs.Common.{◌<◌, ℕ, zero, suc, arith}
use Rattle.std.proofs.lemmas.Nat.{from_le_bytes-to_le_bytes_8}
use Rattle.std.specs.Int.{byte_at, bytes_low_first, w64, to_le_bytes}
use Rattle.hex.proofs.HexLemmas.{decode_of-encode_lower}
use Rattle.hex.specs.Hex.{IsBytes}
use Rattle.rvmc_protocol.proofs.replies.laws.digits_law.Goals as goal

small : (i value : ℕ) → byte_at i value < 256
small zero value = omega arith
small (suc i) value = omega arith

are_bytes : (i count value : ℕ) → IsBytes (bytes_low_first i count value)
are_bytes i zero value j = omega arith
are_bytes i (suc count) value zero = small i value
are_bytes i (suc count) value (suc j) = are_bytes (suc i) count value j

pub returns : goal.returns
returns c = record {
  bytes = decode_of-encode_lower;
  register = λ value fits. (decode_of-encode_lower (to_le_bytes w64 value) (are_bytes 0 8 value), from_le_bytes-to_le_bytes_8 value fits);
}

-- Where the initial data begins.
use Rattle.std.specs.Prelude.{ℕ, ◌+◌, ◌*◌, ◌/◌, ◌≡◌}
use Rattle.std.specs.Int.{next_multiple_of}
use Rattle.std.proofs.Common.{arith}

-- rounded up to a multiple of 16, said in two ways
pub start_is : (n : ℕ) → next_multiple_of n 16 ≡ (n + 15) / 16 * 16
start_is n = omega arith

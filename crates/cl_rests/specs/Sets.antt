-- Sets of ranks from 0 to 7, by their bits, and that of the ranks that rest.
use Rattle.std.specs.Prelude.{ℕ, ◌≡◌, ◌==◌, ◌&&◌, nat_lt, Bool}
use Rattle.std.specs.Int.{bit_at}
use Rattle.cl_machine.specs.Cluster.{Cluster}
use Rattle.cl_rest_laws.specs.Rests.{rests}

-- the rank is in the set
unfoldable pub in_set : ℕ → ℕ → Bool
in_set set r = nat_lt r 8 && (bit_at set r == 1)

-- the set has just the ranks whose first hart rests
abbrev pub AreResting : ℕ → Cluster → Type 0
AreResting set c = (r : ℕ) → in_set set r ≡ rests c r 0

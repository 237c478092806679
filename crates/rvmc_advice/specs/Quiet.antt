-- With which statuses standard error has no line of a fault.
use Rattle.std.specs.Prelude.{ℕ, ◌==◌, ◌||◌, Bool}

-- the statuses of which standard error has no line: all is done, a hart trapped, a rank or a search was cut short, or some
-- order leads to a deadlock
abbrev pub is_quiet : ℕ → Bool
is_quiet status = status == 0 || (status == 3 || (status == 4 || status == 7))

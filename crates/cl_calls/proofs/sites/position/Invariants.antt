use Rattle.std.proofs.Common.{ℕ, ◌≡◌, ◌<◌, ◌==◌, get_or, false}
use Rattle.cl_calls.proofs.sites.position.Given as goal

abbrev pub invariant-loop-i : goal.invariant-loop-i
invariant-loop-i l = (k : ℕ) → k < l.i → (get_or l.ranks k 0 == l.rank) ≡ false

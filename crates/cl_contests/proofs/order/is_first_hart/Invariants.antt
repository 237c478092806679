use Rattle.std.proofs.Common.{ℕ, ◌<◌, ◌≡◌, get_or}
use Rattle.cl_contests.proofs.order.is_first_hart.Given as goal

-- those before it are the first hart
abbrev pub invariant-loop-place : goal.invariant-loop-place
invariant-loop-place l = (i : ℕ) → i < l.place → get_or l.order i 0 ≡ 0

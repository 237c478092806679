use Rattle.std.proofs.Common.{ℕ, IsTrue, take}
use Rattle.cl_deadlock_laws.specs.Stuck.{is_among}
use Rattle.cl_deadlock.specs.Stuck.{IsStuckIn}
use Rattle.cl_deadlock.proofs.companies.free_place.Given as goal

-- those before this place are stuck beside all
abbrev pub invariant-loop-place : goal.invariant-loop-place
invariant-loop-place l = (r : ℕ) → IsTrue (is_among (take l.place l.among) r) → IsStuckIn l.among l.state r

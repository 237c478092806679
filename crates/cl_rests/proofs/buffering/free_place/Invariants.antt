use Rattle.std.proofs.Common.{ℕ, IsTrue, take, true}
use Rattle.cl_deadlock_laws.specs.Stuck.{is_among}
use Rattle.cl_rests.specs.Held.{TellsHeldUp}
use Rattle.cl_rests.proofs.buffering.free_place.Given as goal

-- those before this place are held up beside all
abbrev pub invariant-loop-place : goal.invariant-loop-place
invariant-loop-place l =
    (r : ℕ) → IsTrue (is_among (take l.place l.among) r) → TellsHeldUp l.among l.standing r true

use Rattle.std.proofs.Common.{ℕ, IsTrue, take, false}
use Rattle.cl_deadlock_laws.specs.Stuck.{is_among}
use Rattle.cl_rests.specs.Held.{TellsMayGoOn}
use Rattle.cl_rests.proofs.buffering.some_rests.Given as goal

-- of the ranks so far none rests and is held up by nothing else
abbrev pub invariant-loop-place : goal.invariant-loop-place
invariant-loop-place l =
    (r : ℕ) → IsTrue (is_among (take l.place l.among) r) → TellsMayGoOn l.among l.standing r false

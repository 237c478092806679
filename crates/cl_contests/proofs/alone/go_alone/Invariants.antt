use Rattle.cl_moves.specs.Cycles.{kept_in}
use Rattle.cl_contests.specs.Kept.{search_of}
use Rattle.cl_contests.specs.Turns.{GoesAlone}
use Rattle.cl_contests.proofs.Rounds.{LeavesTrails}
use Rattle.cl_contests.proofs.alone.go_alone.Given as goal

-- the rank took its turns, and is some of them beyond what is kept of it
abbrev pub invariant-loop-turn : goal.invariant-loop-turn
invariant-loop-turn l = record {
  alone : GoesAlone (search_of l.patterns.may_wait l.patterns.kept.items) l.fn.standing l.standing;
  trails : LeavesTrails l.rank 0 l.fn.standing l.standing (kept_in l.watch);
}

use Rattle.std.proofs.Common.{ℕ, ◌<◌, ◌≡◌, Some, slice_get}
use Rattle.mp_match.specs.declared.posts.Line.{Line}
use Rattle.cl_contests.proofs.Starting.{MayWait}
use Rattle.cl_contests.proofs.starts.waits_within.Given as goal

-- the lines before this one are none of receives that may not wait
abbrev pub invariant-loop-line : goal.invariant-loop-line
invariant-loop-line l =
    (place : ℕ) → place < l.line-index → (line : Line) → slice_get l.whole.board.lines place ≡ Some line
    → MayWait l.patterns.kept.items line

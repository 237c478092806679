use Rattle.std.proofs.Common.{ℕ, ◌<◌, ◌≡◌, Some, slice_get}
use Rattle.mp_match.specs.declared.posts.Line.{Line}
use Rattle.cl_contests.specs.Passing.{Keeps}
use Rattle.cl_contests.proofs.Starting.{MayWait}
use Rattle.cl_contests.proofs.starts.add_waits.Given as goal

-- the lines before this one are none of receives that may not wait, and nothing was lost
abbrev pub invariant-loop-line : goal.invariant-loop-line
invariant-loop-line l = record {
  below : (place : ℕ) → place < l.line-index → (line : Line) → slice_get l.whole.board.lines place ≡ Some line
      → MayWait l.patterns.kept.items line;
  keeps : Keeps l.fn.patterns.kept.items l.patterns.kept.items;
  still : l.patterns.may_wait ≡ l.fn.patterns.may_wait;
}

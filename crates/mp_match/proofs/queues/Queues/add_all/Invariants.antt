use Rattle.std.proofs.Common.{◌≡◌, ◌+◌, ◌<◌, ◌^◌, ◌++◌, length}
use Rattle.mp_match.specs.PostPairs.{pairs_on, posts_of}
use Rattle.mp_match.proofs.queues.Queues.add_all.Given as goal

-- what is there, and then the rest in turn, is what is to be there
abbrev pub invariant-loop-line : goal.invariant-loop-line
invariant-loop-line l = record {
  lines : pairs_on l.initial.self.lines (posts_of l.lines) ≡ pairs_on l.self.lines (posts_of l.rest);
  bodies : l.initial.self.bodies ++ l.bodies ≡ l.self.bodies ++ l.left;
  few : length l.self.lines + length l.rest < 2 ^ 64;
  even : length l.left ≡ length l.rest;
}

abbrev pub decreases-loop-line : goal.decreases-loop-line
decreases-loop-line l = length l.rest

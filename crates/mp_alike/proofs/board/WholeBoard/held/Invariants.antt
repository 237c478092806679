use Rattle.std.proofs.Common.{◌≡◌, ◌+◌, ◌≤◌, length}
use Rattle.mp_match.specs.Board.{held_count}
use Rattle.mp_alike.proofs.board.WholeBoard.held.Given as goal

abbrev pub invariant-loop-body : goal.invariant-loop-body
invariant-loop-body l =
    (l.held + held_count l.rest ≡ held_count (l.self).bodies) × (l.held + length l.rest ≤ length (l.self).bodies)

abbrev pub decreases-loop-body : goal.decreases-loop-body
decreases-loop-body l = length l.rest

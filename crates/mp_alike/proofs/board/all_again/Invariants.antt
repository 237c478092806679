use Rattle.std.proofs.Common.{◌≡◌, take}
use Rattle.mp_alike.proofs.board.all_again.Given as goal

-- those so far
abbrev pub invariant-loop-body : goal.invariant-loop-body
invariant-loop-body l = l.copies.items ≡ take l.body-index l.bodies

-- While one thing is made: the words stored so far are the filled ones.
use Rattle.std.proofs.Common.{◌≡◌, take}
use Rattle.rows_boxes.proofs.boxes.make.Given as goal

abbrev pub invariant-loop-i : goal.invariant-loop-i
invariant-loop-i l = l.key ≡ record l.fn.key { view = record l.fn.key.view { filled = take l.i l.words } }

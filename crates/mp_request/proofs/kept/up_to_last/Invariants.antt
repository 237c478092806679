use Rattle.std.proofs.Common.{◌≡◌, ◌≤◌, length}
use Rattle.mp_request.specs.Kept.{whole_table}
use Rattle.mp_request.proofs.kept.up_to_last.Given as goal

abbrev pub invariant-loop-last : goal.invariant-loop-last
invariant-loop-last l = (whole_table l.left ≡ whole_table l.fn.slots) × (length l.left ≤ 255)

abbrev pub decreases-loop-last : goal.decreases-loop-last
decreases-loop-last l = length l.left

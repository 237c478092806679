-- While boxes are looked through: the lowest is still to come.
use Rattle.std.proofs.Common.{◌≡◌, ◌-◌}
use Rattle.part_phase.specs.Receiving.{lowest_from, is_left}
use Rattle.part_phase.proofs.receiving.lowest.Given as goal

abbrev pub invariant-loop-i : goal.invariant-loop-i
invariant-loop-i l = lowest_from (is_left l.taken) 0 l.boxes ≡ lowest_from (is_left l.taken) l.i (l.boxes - l.i)

-- While boxes are looked through: the lowest is still to come.
use Rattle.std.proofs.Common.{◌≡◌, ◌-◌}
use Rattle.std.specs.Prelude.{◌&&◌}
use Rattle.part_phase.specs.Receiving.{lowest_from, is_left, overlaps}
use Rattle.part_phase.proofs.receiving.RecvPhase.next_of.Given as goal

abbrev pub invariant-loop-i : goal.invariant-loop-i
invariant-loop-i l =
    lowest_from (λ box. is_left l.self.taken box && overlaps l.self l.part box) 0 l.self.boxes ≡
    lowest_from (λ box. is_left l.self.taken box && overlaps l.self l.part box) l.i (l.self.boxes - l.i)

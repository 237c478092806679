use Rattle.std.proofs.Common.{◌≡◌, ◌≤◌, length}
use Rattle.std.specs.List.{filter}
use Rattle.mp_transfers.specs.Inits.{is_same_side}
use Rattle.mp_alike.proofs.sides.from_same.Given as goal

abbrev pub invariant-loop-side : goal.invariant-loop-side
invariant-loop-side l =
    (filter (is_same_side l.setup) l.rest ≡ filter (is_same_side l.setup) l.sides) × (length l.rest ≤ length l.sides)

abbrev pub decreases-loop-side : goal.decreases-loop-side
decreases-loop-side l = length l.rest

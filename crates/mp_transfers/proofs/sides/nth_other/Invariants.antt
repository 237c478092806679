use Rattle.std.proofs.Common.{◌≡◌, length, slice_get}
use Rattle.std.specs.List.{filter}
use Rattle.mp_transfers.specs.Inits.{is_other_side}
use Rattle.mp_transfers.proofs.sides.nth_other.Given as goal

abbrev pub invariant-loop-side : goal.invariant-loop-side
invariant-loop-side l =
    slice_get (filter (is_other_side l.new) l.sides) l.n ≡ slice_get (filter (is_other_side l.new) l.rest) l.left

abbrev pub decreases-loop-side : goal.decreases-loop-side
decreases-loop-side l = length l.rest

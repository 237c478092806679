use Rattle.std.proofs.Common.{◌≡◌, length}
use Rattle.std.specs.Prelude.{◌↔◌, filter}
use Rattle.mp_transfers.specs.Inits.{is_same_side}
use Rattle.mp_alike.specs.InnerAlike.{IsAtSame}
use Rattle.mp_alike.proofs.sides.has_same.Given as goal

abbrev pub invariant-loop-side : goal.invariant-loop-side
invariant-loop-side l = record {
  same : (filter (is_same_side l.setup) l.theirs ≡ filter (is_same_side l.setup) l.mine)
      ↔ (filter (is_same_side l.setup) l.right ≡ filter (is_same_side l.setup) l.left);
  left : IsAtSame l.setup l.left;
  right : IsAtSame l.setup l.right;
}

abbrev pub decreases-loop-side : goal.decreases-loop-side
decreases-loop-side l = length l.left

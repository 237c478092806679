use Rattle.std.proofs.Common.{◌≡◌, ◌+◌, ◌-◌, ◌*◌}
use Rattle.std.specs.Prelude.{None}
use Rattle.rvmc_places.specs.Pointers.{pointer_at}
use Rattle.rvmc_places.specs.declared.pointers.Pointer.TheVariants.{Callers}
use Rattle.rvmc_places.proofs.pointers.pointer_at.Given as goal

-- what s0 is behind the instructions so far, and those that are left
abbrev pub invariant-loop-number : goal.invariant-loop-number
invariant-loop-number l = record {
  place : l.next ≡ l.at + 4 * l._number;
  rest :
      pointer_at l.memory l.at l.count (Callers None) ≡ pointer_at l.memory l.next (l.count - l._number) l.pointer;
}

use Rattle.std.proofs.Common.{◌≡◌, ◌-◌, ◌≤◌, length, take, drop}
use Rattle.mp_hub.specs.Twins.{Covers}
use Rattle.mp_hub.proofs.state.twins.kept_copies.Given as goal

-- what was got as far as here, and beyond it the copies, which cover the rest
abbrev pub invariant-loop-place : goal.invariant-loop-place
invariant-loop-place l = record {
  same : take l.place l.copies.items ≡ take l.place l.gots;
  rest : Covers (drop l.place l.gots) (drop l.place l.copies.items);
  place : l.place ≤ length l.gots;
}

abbrev pub decreases-loop-place : goal.decreases-loop-place
decreases-loop-place l = length l.gots - l.place

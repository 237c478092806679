use Rattle.std.proofs.Common.{◌≡◌, ◌<◌, drop, length}
use Rattle.std.specs.Prelude.{IfSome}
use Rattle.rvmc_places.specs.Names as names
use Rattle.rvmc_places.proofs.names.last_dot.Given as goal

-- the last of the dots so far, and of those that are left; and it is in the text
abbrev pub invariant-loop-at : goal.invariant-loop-at
invariant-loop-at l = record {
  same : names.last_dot l.text ≡ names.last_dot_from l.at l.found (drop l.at l.text);
  within : IfSome l.found (λ dot. dot < length l.text);
}

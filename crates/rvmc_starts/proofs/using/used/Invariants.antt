use Rattle.std.proofs.Common.{◌≡◌, ◌++◌, [], drop, map, take}
use Rattle.rvmc_starts.specs.Using.{used}
use Rattle.rvmc_starts.proofs.using.used.Given as goal

abbrev pub invariant-loop-place : goal.invariant-loop-place
invariant-loop-place l =
    map (λ part. part.now) l.found.items ++ used (take l.place l.parts) (drop l.place l.parts) ≡ used [] l.parts

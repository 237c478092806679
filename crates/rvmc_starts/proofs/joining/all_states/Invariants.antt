use Rattle.std.proofs.Common.{◌≡◌, ◌≤◌, ◌*◌, ◌^◌, map, take}
use Rattle.std.specs.Prelude.{sum_by}
use Rattle.rvmc_starts.proofs.joining.all_states.Given as goal

abbrev pub invariant-loop-part : goal.invariant-loop-part
invariant-loop-part l =
    (l.sum ≤ l.part-index * 2 ^ 64) × (l.sum ≡ sum_by (λ part. part.states) (map (λ part. part.now) (take l.part-index l.parts)))

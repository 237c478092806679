use Rattle.std.proofs.Common.{◌≡◌, drop, map}
use Rattle.std.specs.Prelude.{fold}
use Rattle.std.specs.List.{flat_map}
use Rattle.rvmc_starts.specs.Joining.{ends_of, kept_ends, with_end}
use Rattle.rvmc_starts.proofs.joining.kept_ends.Given as goal

abbrev pub invariant-loop-part : goal.invariant-loop-part
invariant-loop-part l =
    fold with_end l.kept.items (flat_map ends_of (map (λ part. part.now) (drop l.part-index l.parts))) ≡ kept_ends (map (λ part. part.now) l.parts)

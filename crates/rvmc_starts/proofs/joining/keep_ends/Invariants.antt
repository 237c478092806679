use Rattle.std.proofs.Common.{◌≡◌, ◌+◌, drop}
use Rattle.std.specs.Prelude.{fold}
use Rattle.rvmc_starts.specs.Joining.{ends_from, ends_of, with_end}
use Rattle.rvmc_starts.proofs.joining.keep_ends.Given as goal

abbrev pub invariant-loop-place : goal.invariant-loop-place
invariant-loop-place l =
    fold with_end l.kept.items (ends_from (l.place + 1) l.part.number (drop l.place l.part.ends)) ≡ fold with_end l.fn.kept.items (ends_of l.part)

use Rattle.std.proofs.Common.{◌≡◌}
use Rattle.std.specs.List.{flat_map, range_with_len}
use Rattle.rvmc_picture.specs.Ends.{awaited_if}
use Rattle.rvmc_picture.proofs.ends.awaited_of.Given as goal

-- those of the ranks so far
abbrev pub invariant-loop-rank : goal.invariant-loop-rank
invariant-loop-rank l = l.awaited.items ≡ flat_map (awaited_if l.own l.waits) (range_with_len 0 l.rank)

use Rattle.std.proofs.Common.{◌≡◌}
use Rattle.std.specs.List.{flat_map, range_with_len}
use Rattle.rvmc_report.specs.Listing.{word_lines}
use Rattle.rvmc_report.proofs.listing.listing.Given as goal

-- the words so far, each behind its names
abbrev pub invariant-loop-number : goal.invariant-loop-number
invariant-loop-number l = l.lines.items ≡ flat_map (word_lines l.image) (range_with_len 0 l.number)

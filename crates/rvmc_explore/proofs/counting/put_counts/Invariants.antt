use Rattle.std.proofs.Common.{◌≡◌, ◌+◌, ◌++◌, drop}
use Rattle.rvmc_explore.specs.Telling.{ends_lines}
use Rattle.rvmc_explore.proofs.counting.put_counts.Given as goal

-- the text so far, and the lines of the outcomes that are left
abbrev pub invariant-loop-place : goal.invariant-loop-place
invariant-loop-place l =
    l.fn.text.items ++ ends_lines 1 l.told ≡ l.text.items ++ ends_lines (l.place + 1) (drop l.place l.told)

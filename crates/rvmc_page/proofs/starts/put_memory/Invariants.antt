use Rattle.std.proofs.Common.{◌≡◌, ◌++◌}
use Rattle.std.specs.List.{flat_map, range_with_len}
use Rattle.rvmc_page.specs.Starts.{row_line}
use Rattle.rvmc_page.proofs.starts.put_memory.Given as goal

-- the rows so far
abbrev pub invariant-loop-number : goal.invariant-loop-number
invariant-loop-number l =
    l.text.items ≡ l.fn.text.items ++ flat_map (row_line l.bytes) (range_with_len 0 l.number)

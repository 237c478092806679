use Rattle.std.proofs.Common.{◌≡◌, ◌++◌}
use Rattle.std.specs.List.{range_with_len}
use Rattle.rvmc_gdb.specs.Shown.{registers_of}
use Rattle.rvmc_gdb.proofs.shown.put_registers.Given as goal

-- the registers so far
abbrev pub invariant-loop-number : goal.invariant-loop-number
invariant-loop-number l = l.text.items ≡ l.fn.text.items ++ registers_of l.hart (range_with_len 0 l.number)

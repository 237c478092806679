use Rattle.std.proofs.Common.{◌≡◌, ◌++◌}
use Rattle.rvmc_gdb.specs.Shown.{named_threads}
use Rattle.rvmc_gdb.proofs.session.Session.put_threads.Given as goal

-- the threads so far
abbrev pub invariant-loop-number : goal.invariant-loop-number
invariant-loop-number l = l.text.items ≡ l.fn.text.items ++ named_threads l.symbols l.state l.self l.number

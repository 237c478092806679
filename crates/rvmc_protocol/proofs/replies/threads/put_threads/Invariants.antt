use Rattle.std.proofs.Common.{◌≡◌, ◌++◌}
use Rattle.std.specs.Prelude.{codes}
use Rattle.rvmc_protocol.specs.Replies.Threads.{more_threads}
use Rattle.rvmc_protocol.proofs.replies.threads.put_threads.Given as goal

-- the first thread, and those so far
abbrev pub invariant-loop-further : goal.invariant-loop-further
invariant-loop-further l = l.text.items ≡ l.fn.text.items ++ (codes "m1" ++ more_threads l.further)

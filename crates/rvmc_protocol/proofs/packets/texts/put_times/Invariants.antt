use Rattle.std.proofs.Common.{◌≡◌, ◌++◌, replicate}
use Rattle.rvmc_protocol.proofs.packets.texts.put_times.Given as goal

-- as many as were added
abbrev pub invariant-loop-n : goal.invariant-loop-n
invariant-loop-n l = l.done.items ≡ l.fn.done.items ++ replicate l._n l.byte

use Rattle.std.proofs.Common.{◌≡◌, ◌++◌, drop}
use Rattle.rvmc_protocol.specs.Monitor.Typed.{debug_spelling}
use Rattle.rvmc_protocol.proofs.monitor.typed.debug_spelling.Given as goal

-- what is debug_spelling so far, and what is left
abbrev pub invariant-loop-byte : goal.invariant-loop-byte
invariant-loop-byte l = debug_spelling 61 l.typed ≡ l.text.items ++ debug_spelling l.mark (drop l.byte-index l.typed)

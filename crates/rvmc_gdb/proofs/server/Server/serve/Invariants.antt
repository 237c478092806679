use Rattle.std.proofs.Common.{◌≡◌, ◌++◌, List, ℕ, take}
use Rattle.rvmc_gdb.specs.Talks.{Serves}
use Rattle.rvmc_gdb.proofs.server.Server.serve.Given as goal

-- what is written for the bytes so far
abbrev pub invariant-loop-byte : goal.invariant-loop-byte
invariant-loop-byte l =
    (text : List ℕ) × Serves l.fn.self (take l.byte-index l.bytes) l.self text × (l.out.items ≡ l.fn.out.items ++ text)

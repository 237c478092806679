use Rattle.std.proofs.Common.{List, ℕ, take}
use Rattle.std.specs.Io.KnownBytes.{Appends}
use Rattle.rvmc_serve.specs.Typing.{TakesAll}
use Rattle.rvmc_serve.proofs.typing.Typing.take_all.Given as goal

-- what was taken so far, and what was written for it
abbrev pub invariant-loop-byte : goal.invariant-loop-byte
invariant-loop-byte g l =
    let contents = g.W.Write.contents in
    (text : List ℕ) × TakesAll l.fn.self (take l.byte-index l.bytes) l.self text
    × Appends (contents l.fn.out) (contents l.out) text

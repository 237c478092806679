-- How the loop over the bytes stands before each turn: no line before this byte begins so.
use Rattle.std.proofs.Common.{◌≡◌, length}
use Rattle.rvmc_hints.specs.Seen.{includes}
use Rattle.rvmc_hints.proofs.seen.includes.Given as goal

abbrev pub invariant-loop-byte : goal.invariant-loop-byte
invariant-loop-byte l = includes l.rest ≡ includes l.bytes

abbrev pub decreases-loop-byte : goal.decreases-loop-byte
decreases-loop-byte l = length l.rest

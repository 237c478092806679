-- How the loop over the bytes stands before each turn: those before this one are blanks.
use Rattle.std.proofs.Common.{◌≡◌, length}
use Rattle.rvmc_hints.specs.Lines.{begins_with_colon}
use Rattle.rvmc_hints.proofs.lines.begins_with_colon.Given as goal

abbrev pub invariant-loop-byte : goal.invariant-loop-byte
invariant-loop-byte l = begins_with_colon l.rest ≡ begins_with_colon l.bytes

abbrev pub decreases-loop-byte : goal.decreases-loop-byte
decreases-loop-byte l = length l.rest

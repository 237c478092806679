-- Each turn leaves fewer bytes, and never more than there were.
use Rattle.std.proofs.Common.{◌≤◌, length}
use Rattle.rvmc_hints.proofs.lines.first_word.Given as goal

abbrev pub invariant-loop-byte : goal.invariant-loop-byte
invariant-loop-byte l = length l.rest ≤ length l.line

abbrev pub decreases-loop-byte : goal.decreases-loop-byte
decreases-loop-byte l = length l.rest

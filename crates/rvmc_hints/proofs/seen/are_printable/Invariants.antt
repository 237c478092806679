-- How the loop over the bytes stands before each turn: those before this one are printable.
use Rattle.std.proofs.Common.{◌≡◌, length}
use Rattle.std.specs.List.{list_all}
use Rattle.rvmc_hints.specs.Seen.{is_printable}
use Rattle.rvmc_hints.proofs.seen.are_printable.Given as goal

abbrev pub invariant-loop-byte : goal.invariant-loop-byte
invariant-loop-byte l = list_all is_printable l.rest ≡ list_all is_printable l.bytes

abbrev pub decreases-loop-byte : goal.decreases-loop-byte
decreases-loop-byte l = length l.rest

-- How the loop over a name's bytes stands before each turn: those before this one passed.
use Rattle.std.proofs.Common.{◌≡◌, length}
use Rattle.std.specs.List.{list_all}
use Rattle.rv_image_types.specs.Names as names
use Rattle.rv_image_types.proofs.names.are_name_bytes.Given as goal

abbrev pub invariant-loop-byte : goal.invariant-loop-byte
invariant-loop-byte l = list_all names.is_name_byte l.rest ≡ list_all names.is_name_byte l.bytes

abbrev pub decreases-loop-byte : goal.decreases-loop-byte
decreases-loop-byte l = length l.rest

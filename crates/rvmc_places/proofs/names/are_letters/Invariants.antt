use Rattle.std.proofs.Common.{◌≡◌, length}
use Rattle.std.specs.List.{list_all}
use Rattle.rvmc_places.specs.Names as names
use Rattle.rvmc_places.proofs.names.are_letters.Given as goal

-- the bytes before these passed
abbrev pub invariant-loop-byte : goal.invariant-loop-byte
invariant-loop-byte l = list_all names.is_letter l.rest ≡ list_all names.is_letter l.text

abbrev pub decreases-loop-byte : goal.decreases-loop-byte
decreases-loop-byte l = length l.rest

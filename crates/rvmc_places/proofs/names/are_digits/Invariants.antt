use Rattle.std.proofs.Common.{◌≡◌, length}
use Rattle.std.specs.List.{list_all}
use Rattle.rv_image_types.specs.Names.{is_digit}
use Rattle.rvmc_places.proofs.names.are_digits.Given as goal

-- the bytes before these passed
abbrev pub invariant-loop-byte : goal.invariant-loop-byte
invariant-loop-byte l = list_all is_digit l.rest ≡ list_all is_digit l.text

abbrev pub decreases-loop-byte : goal.decreases-loop-byte
decreases-loop-byte l = length l.rest

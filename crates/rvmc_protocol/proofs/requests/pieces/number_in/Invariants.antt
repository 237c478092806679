use Rattle.std.proofs.Common.{◌≡◌, take}
use Rattle.std.specs.Str.Parse.{AllDigits, digits_value}
use Rattle.rvmc_protocol.proofs.requests.pieces.number_in.Given as goal

-- the number of the digits so far
abbrev pub invariant-loop-byte : goal.invariant-loop-byte
invariant-loop-byte l = record {
  digits : AllDigits 16 (take l.byte-index l.text);
  value : l.number ≡ digits_value 16 (take l.byte-index l.text);
}

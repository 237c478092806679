use Rattle.std.proofs.Common.{◌+◌, ◌≡◌, ◌≤◌, ◌++◌, false, length, drop}
use Rattle.std.specs.Fmt.{digits}
use Rattle.rvmc_sights.proofs.rows.write_hex_digits.Given as goal

-- what is left stands before the digits so far
abbrev pub invariant-loop-left : goal.invariant-loop-left
invariant-loop-left l = record {
  room : length (digits 16 false l.left) ≤ l.at;
  within : l.at ≤ l.end;
  long : l.at + length (digits 16 false l.n) ≡ l.end + length (digits 16 false l.left);
  written : digits 16 false l.left ++ drop l.at l.row ≡ digits 16 false l.n ++ drop l.end l.fn.row;
}

abbrev pub decreases-loop-left : goal.decreases-loop-left
decreases-loop-left l = l.left

use Rattle.std.proofs.Common.{◌≤◌, length}
use Rattle.std.specs.Io.KnownBytes.{Consumes}
use Rattle.rvmc_report.proofs.input.read_input.Given as goal

-- what was taken so far, of a length within the bound
abbrev pub invariant-loop : goal.invariant-loop
invariant-loop g l =
    let remaining = g.R.Read.remaining in
    record {
      taken : Consumes (remaining l.fn.input) (remaining l.input) l.bytes.items;
      short : length l.bytes.items ≤ 67108864;
    }

use Rattle.std.proofs.Common.{◌≡◌, ◌≤◌, ◌-◌, ◌++◌, drop, length}
use Rattle.std.specs.Prelude.{option_map}
use Rattle.rvmc_starts.specs.Reading.{ends_in}
use Rattle.rvmc_starts.proofs.reading.ends_in.Given as goal

abbrev pub invariant-loop-place : goal.invariant-loop-place
invariant-loop-place l = record {
  within : l.at ≤ length l.bytes;
  same : ends_in l.count l.bytes ≡ option_map (λ more. l.ends.items ++ more) (ends_in (l.count - l._place) (drop l.at l.bytes));
}

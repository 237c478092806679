use Rattle.std.proofs.Common.{◌≡◌, length}
use Rattle.rv_memory.specs.Readings.{AreReadings}
use Rattle.rv_memory.proofs.text.readings.Given as goal

-- the words so far are decoded
abbrev pub invariant-loop-k : goal.invariant-loop-k
invariant-loop-k l = record {
  count : length l.readings.items ≡ l.k;
  read : AreReadings l.text l.readings.items;
}

-- How the loop over the symbols stands before each turn.
use Rattle.std.proofs.Common.{◌≡◌, [], ◌-◌}
use Rattle.rv_image.specs.Reading.{repeated, next_symbol, last_name}
use Rattle.rv_image.proofs.reading.take_symbols.Given as goal

-- the name at hand is the last one's, and what is left, read after what is done, is what all of it is read as
abbrev pub invariant-loop : goal.invariant-loop
invariant-loop l = record {
  last : last_name l.done.items ≡ l.last;
  same : repeated (next_symbol l.total l.memory) (l.count - l.counter) l.done.items l.rest ≡ repeated (next_symbol l.total l.memory) l.count [] l.bytes;
}

-- How the loop over the communicators stands before each turn.
use Rattle.std.proofs.Common.{◌≡◌, [], ◌-◌}
use Rattle.rv_image.specs.Reading.{repeated, next_comm}
use Rattle.rv_image.proofs.reading.take_comms.Given as goal

-- what is left, read after what is done, is what all of it is read as
abbrev pub invariant-loop : goal.invariant-loop
invariant-loop l = repeated (next_comm l.total l.ranks) (l.count - l.counter) l.done.items l.rest ≡ repeated (next_comm l.total l.ranks) l.count [] l.bytes

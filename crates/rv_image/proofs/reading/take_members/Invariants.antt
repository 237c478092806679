-- How the loop over the members of a communicator stands before each turn.
use Rattle.std.proofs.Common.{◌≡◌, ◌≤◌, ◌-◌, [], length, take, drop}
use Rattle.rv_image.specs.Reading.{repeated, next_member}
use Rattle.rv_image.proofs.reading.take_members.Given as goal

-- the members so far are there, and what is left, read after them, is what all of it is read as
abbrev pub invariant-loop-k : goal.invariant-loop-k
invariant-loop-k l = record {
  there : l.k ≤ length l.bytes;
  same : repeated (next_member l.total l.ranks l.n) (l.count - l.k) (take l.k l.bytes) (drop l.k l.bytes) ≡ repeated (next_member l.total l.ranks l.n) l.count [] l.bytes;
}

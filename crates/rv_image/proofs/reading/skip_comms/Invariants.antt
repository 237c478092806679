-- How the loop past the communicators stands before each turn.
use Rattle.std.proofs.Common.{◌≡◌, ℕ, List, [], ◌-◌, length}
use Rattle.rv_image.specs.Reading.{repeated, next_comm}
use Rattle.rv_image.proofs.reading.skip_comms.Given as goal

-- so many are read, and what is left, read after them, is what all of it is read as
abbrev pub invariant-loop-before : goal.invariant-loop-before
invariant-loop-before l =
    (done : List (List ℕ))
    × (length done ≡ l.before)
    × (repeated (next_comm l.total l.ranks) (l.count - l.before) done l.rest ≡ repeated (next_comm l.total l.ranks) l.count [] l.bytes)

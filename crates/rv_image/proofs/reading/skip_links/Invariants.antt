-- How the loop past the links stands before each turn.
use Rattle.std.proofs.Common.{◌≡◌, List, [], ◌-◌, length}
use Rattle.rv_image_types.specs.declared.images.Link.{Link}
use Rattle.rv_image.specs.Reading.{repeated, next_link}
use Rattle.rv_image.proofs.reading.skip_links.Given as goal

-- so many are read, and what is left, read after them, is what all of it is read as
abbrev pub invariant-loop-n : goal.invariant-loop-n
invariant-loop-n l =
    (done : List Link)
    × (length done ≡ l.n)
    × (repeated (next_link l.total l.ranks) (l.count - l.n) done l.rest ≡ repeated (next_link l.total l.ranks) l.count [] l.bytes)

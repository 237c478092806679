-- How the loop past the symbols stands before each turn.
use Rattle.std.proofs.Common.{◌≡◌, List, [], ◌-◌, length}
use Rattle.rv_image_types.specs.declared.images.Symbol.{Symbol}
use Rattle.rv_image.specs.Reading.{repeated, next_symbol, last_name}
use Rattle.rv_image.proofs.reading.skip_symbols.Given as goal

-- so many are read, the last one of the name at hand, and what is left, read after them, is what all of it is read as
abbrev pub invariant-loop-n : goal.invariant-loop-n
invariant-loop-n l =
    (done : List Symbol)
    × (length done ≡ l.n)
    × (last_name done ≡ l.last)
    × (repeated (next_symbol l.total l.memory) (l.count - l.n) done l.rest ≡ repeated (next_symbol l.total l.memory) l.count [] l.bytes)

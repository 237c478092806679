-- While the data words are read: the first i are read, and all past them are 0.
use Rattle.std.specs.Slots.{slots_items}
use Rattle.part_box.specs.Spelled.{IsDataOf}
use Rattle.part_box.proofs.partition.data_words.Given as goal

abbrev pub invariant-loop-i : goal.invariant-loop-i
invariant-loop-i l = IsDataOf l.i (slots_items l.closed.words) l.words

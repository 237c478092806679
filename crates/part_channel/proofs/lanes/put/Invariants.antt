-- While a box is filled: the first words are.
use Rattle.std.proofs.Common.{◌≡◌}
use Rattle.part_channel.specs.BoxWords.{words_of}
use Rattle.part_channel.proofs.lanes.put.Given as goal

abbrev pub invariant-loop-at : goal.invariant-loop-at
invariant-loop-at l = l.key ≡ record l.fn.key { view = record l.fn.key.view { filled = words_of l.bytes l.at } }

-- One more data word is read.
use Rattle.std.proofs.Common.{arith}
use Rattle.std.specs.Slots.{slots_items}
use Rattle.part_box.proofs.Lists.{data_read}
use Rattle.part_box.proofs.partition.data_words.Goals as goal

pub loop-i-preserved : goal.loop-i-preserved
loop-i-preserved c =
    data_read (slots_items c.args.closed.now.words) c.loop-i.words c.loop-i.i c.word.result (omega arith) c.word.ensures
    c.loop-i.invariant

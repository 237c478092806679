-- While one thing is taken: the words read so far are the copied ones.
use Rattle.std.proofs.Common.{◌≡◌, length, take}
use Rattle.rows_boxes.proofs.boxes.take.Given as goal

abbrev pub invariant-loop-i : goal.invariant-loop-i
invariant-loop-i l = record {
  long : length l.words ≡ 16;
  key : l.key ≡ record l.fn.key { view = record l.fn.key.view { copied = take l.i l.words } };
}

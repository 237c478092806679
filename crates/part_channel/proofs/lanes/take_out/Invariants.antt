-- While a thing is copied: the copied words are spelled out.
use Rattle.std.proofs.Common.{◌≡◌, ◌-◌, ◌*◌, ◌++◌, length, replicate}
use Rattle.std.specs.List.{flat_map}
use Rattle.part_channel.specs.Words.{bytes_of_word}
use Rattle.part_channel.proofs.lanes.take_out.Given as goal

abbrev pub invariant-loop-i : goal.invariant-loop-i
invariant-loop-i l = record {
  key : l.key ≡ record l.fn.key { view = record l.fn.key.view { copied = l.key.view.copied } };
  count : length l.key.view.copied ≡ l.i;
  out : l.out ≡ flat_map bytes_of_word l.key.view.copied ++ replicate (128 - 8 * l.i) 0;
}

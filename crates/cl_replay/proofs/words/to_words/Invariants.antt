use Rattle.std.proofs.Common.{◌≡◌, length, take}
use Rattle.part_channel.specs.BoxWords.{words_of}
use Rattle.cl_replay.proofs.words.to_words.Given as goal

abbrev pub invariant-loop-i : goal.invariant-loop-i
invariant-loop-i l = record {
  long : length l.words ≡ 16;
  first : take l.i l.words ≡ words_of l.bytes l.i;
}

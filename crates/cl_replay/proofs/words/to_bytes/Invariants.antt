use Rattle.std.proofs.Common.{◌≡◌, ◌-◌, ◌*◌, ◌++◌, replicate, take}
use Rattle.std.specs.List.{flat_map}
use Rattle.part_channel.specs.Words.{bytes_of_word}
use Rattle.cl_replay.proofs.words.to_bytes.Given as goal

abbrev pub invariant-loop-i : goal.invariant-loop-i
invariant-loop-i l = l.out ≡ flat_map bytes_of_word (take l.i l.words) ++ replicate (128 - 8 * l.i) 0

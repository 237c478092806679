use Rattle.std.proofs.Common.{arith}
use Rattle.cl_replay.proofs.Spells.{next_bytes}
use Rattle.cl_replay.proofs.words.to_bytes.Goals as goal

pub loop-i-preserved : goal.loop-i-preserved
loop-i-preserved c =
    next_bytes c.args.words.now c.loop-i.out c.put_word.new.out c.loop-i.i
    (omega (arith, c.told-words, c.loop-i-test.true)) (omega (arith, c.loop-i-test.true))
    c.loop-i.invariant c.put_word.ensures

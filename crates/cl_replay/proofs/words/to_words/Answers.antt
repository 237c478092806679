use Rattle.std.proofs.Common.{◌≡◌, ap, ◌∙◌, arith}
use Rattle.part_channel.specs.Words.{bytes_of_words}
use Rattle.part_channel.specs.BoxWords.{words_of}
use Rattle.part_channel.proofs.Words.{bytes_back}
use Rattle.cl_replay.proofs.Spells.{all_words}
use Rattle.cl_replay.proofs.words.to_words.Goals as goal

pub returns : goal.returns
returns c =
    let all : c.loop-i.words ≡ words_of c.args.bytes.now 16 =
    all_words c.loop-i.words c.args.bytes.now c.loop-i.i (omega (arith, c.loop-i-test.false, c.loop-i.auto.i-end))
    c.loop-i.invariant.long c.loop-i.invariant.first in
    ap bytes_of_words all
    ∙ bytes_back c.args.bytes.now (λ i. let fits = c.type_inv.bytes i in omega arith) c.requires.whole 16
    (omega (arith, c.requires.fits)) (omega arith)

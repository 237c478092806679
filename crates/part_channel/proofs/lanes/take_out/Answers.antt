-- One more word is copied and spelled out.
use Rattle.std.proofs.Common.{◌≡◌, ℕ, ◌+◌, ◌-◌, ◌*◌, ◌<◌, ◌++◌, [], ◌∷◌, List, length, replicate, sym, ap, ◌∙◌, arith}
use Rattle.std.proofs.Common.{length-append}
use Rattle.std.specs.List.{flat_map}
use Rattle.part_box.specs.Keys.{Receiver}
use Rattle.part_channel.specs.Words.{bytes_of_word}
use Rattle.part_channel.proofs.Words.{more_bytes}
use Rattle.part_channel.proofs.Received.{copy_kept}
use Rattle.part_channel.proofs.lanes.take_out.Goals as goal

pub loop-i-preserved : goal.loop-i-preserved
loop-i-preserved c =
    let was = c.loop-i.invariant in
    let is = c.copy-word.ensures.copied in
    let words = c.loop-i.key.view.copied in
    let word = c.copy-word.result in
    let copied : c.copy-word.new.key.view.copied ≡ words ++ word ∷ [] = ap (λ (k : Receiver). k.view.copied) is in
    let low : c.loop-i.i < 16 = omega (arith, c.requires.wide.1, c.loop-i-test.true) in
    record {
      key = copy_kept c.args.key.now c.loop-i.key c.copy-word.new.key word was.key is;
      count = ap length copied ∙ (length-append words (word ∷ []) ∙ ap (λ n. n + 1) was.count);
      out = more_bytes c.loop-i.out c.put_word.new.out words c.loop-i.i word was.count low was.out c.put_word.ensures
          ∙ ap (λ (l : List ℕ). flat_map bytes_of_word l ++ replicate (128 - 8 * (c.loop-i.i + 1)) 0) (sym copied);
    }

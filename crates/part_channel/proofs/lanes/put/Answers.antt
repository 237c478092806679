-- The words that are filled are as many as the loop has come.
use Rattle.std.proofs.Common.{◌≡◌, length, ap, ◌∙◌, arith}
use Rattle.part_box.specs.Keys.{Sender}
use Rattle.part_channel.proofs.Words.{length-words_of}
use Rattle.part_channel.proofs.lanes.put.Goals as goal

pub fill-requires-clause-room : goal.fill-requires-clause-room
fill-requires-clause-room c =
    let count : length c.loop-at.key.view.filled ≡ c.loop-at.at =
    ap (λ (k : Sender). length k.view.filled) c.loop-at.invariant ∙ length-words_of c.args.bytes.now c.loop-at.at in
    omega arith

pub ready-requires-clause-filled : goal.ready-requires-clause-filled
ready-requires-clause-filled c =
    let count : length c.loop-at.key.view.filled ≡ c.loop-at.at =
    ap (λ (k : Sender). length k.view.filled) c.loop-at.invariant ∙ length-words_of c.args.bytes.now c.loop-at.at in
    omega arith

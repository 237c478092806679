-- The key of the partition was looked at, and it agrees with the other side's.
use Rattle.std.proofs.Common.{◌≡◌, Some, sym, ap, ◌∙◌}
use Rattle.std.specs.Prelude.{slice_get}
use Rattle.part_channel.specs.Sending.{SendView, tested}
use Rattle.part_channel.specs.Receiving.{RecvView}
use Rattle.part_channel.proofs.Agreed.{test_agrees}
use Rattle.test_boxes.proofs.sides.a_freed_partition_was_taken.Goals as goal

pub returns-clause-taken : goal.returns-clause-taken
returns-clause-taken c stamp was is r answer old new at_r =
    let side = c.args.send.now in
    let test = c.test-told.ensures.tested in
    let gate = test.0 in
    let kept : slice_get c.test-told.new.self.keys 1 ≡ Some is =
    ap (λ (s : SendView). slice_get s.keys 1) (sym c.agree.ensures.sender) ∙ new in
    let theirs = ap (λ (v : RecvView). slice_get v.keys 1) (sym c.agree.ensures.receiver) ∙ at_r in
    let told = c.agree.ensures.agreed is r kept theirs in
    let here : slice_get (tested side gate).keys 1 ≡ Some is =
    ap (λ (s : SendView). slice_get s.keys 1) (sym test.1) ∙ kept in
    (test_agrees c.args.channel.now.width told.0 side c.args.clock gate stamp was is r.view (sym test.2 ∙ answer)
    (ap (slice_get side.keys) c.requires.next ∙ old) (ap (slice_get (tested side gate).keys) c.requires.next ∙ here)
    told.1).0

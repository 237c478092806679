-- New keys are a new side.
use Rattle.std.proofs.Common.{◌≡◌, List, map, refl, sym, ap, ◌∙◌, arith}
use Rattle.part_box.specs.Keys.{Sender, new_sender}
use Rattle.part_channel.specs.Channels.{sender_box}
use Rattle.part_channel.specs.Sending.{none_marked, phase_of}
use Rattle.part_channel.proofs.Sent.{new_side, boxes_back, new_phase}
use Rattle.part_channel.proofs.sending.SendSide.over.Goals as goal

pub invariant_of-result : goal.invariant_of-result
invariant_of-result c = record {
  shape = record { most = omega arith; largest = omega arith; whole = refl };
  kept = new_side c.requires.new.0 c.args.keys.items c.requires.new.1 c.requires.new.2;
}

pub returns : goal.returns
returns c =
    let new = c.requires.new in
    let back : c.args.keys.items ≡ map new_sender (map sender_box c.args.keys.items) =
    sym (ap (λ l. map new_sender (map sender_box l)) new.2
    ∙ (ap (map new_sender) (boxes_back new.0) ∙ sym new.2)) in
    let phase : phase_of c.args.keys.items none_marked ≡ 0 =
    ap (λ (l : List Sender). phase_of l none_marked) new.2 ∙ new_phase new.0 in
    record {
      over = (
        refl,
        λ i.
            record { keys = back i; parts = 0; size = 0; phase = phase i; ready = none_marked; freed = 0 },
      );
    }

-- New keys are a new side.
use Rattle.std.proofs.Common.{◌≡◌, List, map, false, refl, sym, ap, ◌∙◌, arith}
use Rattle.part_box.specs.Keys.{Receiver, new_receiver}
use Rattle.part_channel.specs.Channels.{receiver_box}
use Rattle.part_channel.specs.Shapes.{IsShape}
use Rattle.part_channel.specs.Sending.{none_marked}
use Rattle.part_channel.specs.Receiving.{round_of}
use Rattle.part_channel.proofs.Received.{new_side, boxes_back, new_round}
use Rattle.part_channel.proofs.receiving.RecvSide.over.Goals as goal

unset : IsShape 0 0
unset = record { most = omega arith; largest = omega arith; whole = refl }

pub invariant_of-result : goal.invariant_of-result
invariant_of-result c = record {
  shape = unset;
  cut = record { shape = unset; total = λ some. absurd (omega (arith, some)) };
  kept = new_side c.requires.new.0 c.args.keys.items c.requires.new.1 c.requires.new.2;
}

pub returns : goal.returns
returns c =
    let new = c.requires.new in
    let back : c.args.keys.items ≡ map new_receiver (map receiver_box c.args.keys.items) =
    sym (ap (λ l. map new_receiver (map receiver_box l)) new.2
    ∙ (ap (map new_receiver) (boxes_back new.0) ∙ sym new.2)) in
    let round : round_of c.args.keys.items none_marked ≡ 0 =
    ap (λ (l : List Receiver). round_of l none_marked) new.2 ∙ new_round new.0 in
    record {
      over = (
        refl,
        λ i.
            record {
              keys = back i;
              parts = 0;
              size = 0;
              boxes = 0;
              bytes = 0;
              phase = round i;
              active = false;
              taken = none_marked;
            },
      );
    }

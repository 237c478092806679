-- The receiver may load the gate while nothing is pending.
use Rattle.std.proofs.Common.{arith, ◌≡◌, ap, ◌∙◌}
use Rattle.part_box.specs.Keys.{Receiver}
use Rattle.part_box.proofs.Allowed.{looks}
use Rattle.part_box.proofs.Owned.{receiver_owned}
use Rattle.part_box.proofs.partition.PartBox.gate_for_receiver.Goals as goal

pub load-requires : goal.load-requires
load-requires c =
    let key = c.key.inside in
    let seen : key.seat.me.0.receiving.seen ≡ c.args.key.now.view.seen =
    ap (λ (k : Receiver). k.view.seen) c.key.view_is in (
      receiver_owned c.self.view_is c.key.view_is c.requires.own,
      omega arith,
      looks _ _ _ _ c.key.invariant.receives (seen ∙ c.requires.nothing_pending),
    )

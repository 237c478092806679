-- The sender may load the gate at any time.
use Rattle.std.proofs.Common.{arith}
use Rattle.part_box.proofs.Allowed.{frees}
use Rattle.part_box.proofs.Owned.{sender_owned}
use Rattle.part_box.proofs.partition.PartBox.gate_for_sender.Goals as goal

pub load-requires : goal.load-requires
load-requires c =
    let key = c.key.inside in
    (sender_owned c.self.view_is c.key.view_is c.requires.own, omega arith, frees _ _ _ _ c.key.invariant.sends)

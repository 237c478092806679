-- The two keys may be joined, and by the gate rule the box is settled by what its words spell.
use Rattle.std.proofs.Common.{arith, ap, subst}
use Rattle.std.specs.Slots.{slots_items}
use Rattle.part_box.specs.declared.view.View.{View}
use Rattle.part_box.specs.Seats.{joined_view}
use Rattle.part_box.specs.Keys.{Place, Sender, Receiver}
use Rattle.part_box.specs.Rule.{GateRule}
use Rattle.part_box.specs.Settling.{IsSettled}
use Rattle.part_box.proofs.Allowed.{joins, settles}
use Rattle.part_box.proofs.Leaves.{settled}
use Rattle.part_box.proofs.Owned.{sender_owned, receiver_owned}
use Rattle.part_box.proofs.partition.PartBox.settle.Goals as goal

pub join_seat-requires : goal.join_seat-requires
join_seat-requires c = (
  sender_owned c.self.view_is c.send.view_is c.requires.sender,
  receiver_owned c.self.view_is c.recv.view_is c.requires.receiver,
  c.recv.invariant.no_slot,
  omega arith,
  joins _ _ _ _ _ c.send.invariant.sends c.recv.invariant.receives,
)

pub returns : goal.returns
returns c =
    let both : View = joined_view c.send.inside.seat.me.0 c.recv.inside.seat.me.0 in
    let width = c.self.inside.width in
    let words = slots_items c.close_with-closed.result.words in
    let end = c.close_with-closed.ensures.values.2 in
    let met = ap (λ m. m.0) c.join_seat.ensures.2 in
    -- the rule of the last state, which has both views
    let last = settles _ end.0 _ _ both end.1.0 end.1.1 met c.send.invariant.sends c.recv.invariant.receives in
    let rule : GateRule width words both.sending both.receiving =
    subst (λ l. GateRule width l both.sending both.receiving) end.2
    (subst (λ n. GateRule n end.0.words both.sending both.receiving) c.self.invariant.keyed last) in
    let told : IsSettled width both.sending both.receiving c.left_over-left.result =
    settled width words both.sending both.receiving c.left_over-left.result c.self.invariant.most rule
    c.left_over-left.ensures in
    record {
      settled =
          subst (λ (k : Sender). IsSettled c.args.self.width k.view c.args.recv.view c.left_over-left.result)
          c.send.view_is
          (subst (λ (k : Receiver). IsSettled c.args.self.width both.sending k.view c.left_over-left.result)
          c.recv.view_is
          (subst (λ (p : Place). IsSettled p.width both.sending both.receiving c.left_over-left.result) c.self.view_is
          told));
    }

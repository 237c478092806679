-- The receiver's part moves into the sender's seat, which then has both keys, and back.
use Rattle.std.proofs.Common.{arith, ap, ◌∙◌}
use Rattle.part_box.proofs.Allowed.{splits, joins, agrees}
use Rattle.part_box.proofs.Owned.{sender_owned, receiver_owned}
use Rattle.part_box.proofs.partition.PartBox.agree.Goals as goal

pub split_seat-part-requires : goal.split_seat-part-requires
split_seat-part-requires c = (
  receiver_owned c.self.view_is c.recv.view_is c.requires.receiver,
  omega arith,
  splits _ _ _ c.recv.invariant.receives,
)

pub join_seat-requires : goal.join_seat-requires
join_seat-requires c =
    let part = c.split_seat-part.ensures in (
      sender_owned c.self.view_is c.send.view_is c.requires.sender,
      part.3 ∙ receiver_owned c.self.view_is c.recv.view_is c.requires.receiver,
      ap (λ m. m.1) part.4,
      omega arith,
      joins _ _ _ _ _ c.send.invariant.sends (ap (λ m. m.0.receives) part.4 ∙ c.recv.invariant.receives),
    )

-- the joined seat is the sender's, and receives as the part did
pub load-requires : goal.load-requires
load-requires c =
    let part = c.split_seat-part.ensures in
    let both = c.join_seat.ensures in (
      both.0 ∙ sender_owned c.self.view_is c.send.view_is c.requires.sender,
      omega arith,
      agrees _ _ _ _ _ (ap (λ m. m.0.sends) both.2 ∙ c.send.invariant.sends)
          (ap (λ m. m.0.receives) both.2 ∙ (ap (λ m. m.0.receives) part.4 ∙ c.recv.invariant.receives))
          c.self.invariant.keyed,
    )

pub split_seat-requires : goal.split_seat-requires
split_seat-requires c =
    let part = c.split_seat-part.ensures in
    let both = c.join_seat.ensures in
    let read = c.load.ensures in (
      read.0 ∙ (both.0 ∙ sender_owned c.self.view_is c.send.view_is c.requires.sender),
      omega arith,
      splits _ _ _
          (ap (λ m. m.0.receives) read.2.0
          ∙ (ap (λ m. m.0.receives) both.2 ∙ (ap (λ m. m.0.receives) part.4 ∙ c.recv.invariant.receives))),
    )

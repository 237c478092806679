-- What contracts see of a box and of its keys, and what each call makes of a key.
use Rattle.std.specs.Prelude.{ℕ}
use Rattle.atomic_table.specs.Seated.{TableId}
use Rattle.part_box.specs.declared.view.Sending.{Sending}
use Rattle.part_box.specs.declared.view.Receiving.{Receiving}
use Rattle.part_box.specs.Steps.{nothing_sent, nothing_received, with_made, with_freed, with_look}
use Rattle.part_box.specs.Seats.{with_word, with_copy}
use Rattle.part_box.specs.Steps.{with_got}

abbrev pub BoxId : Type 0
BoxId = TableId

-- which box it is, and how many data words it has
pub record Place : Type 0 where
  pub at : BoxId
  pub width : ℕ

-- a sender's key: its box, and what it knows
pub record Sender : Type 0 where
  pub at : BoxId
  pub view : Sending

-- a receiver's key: its box, and what it knows
pub record Receiver : Type 0 where
  pub at : BoxId
  pub view : Receiving

abbrev pub new_sender : BoxId → Sender
new_sender at = record { at = at; view = nothing_sent }

abbrev pub new_receiver : BoxId → Receiver
new_receiver at = record { at = at; view = nothing_received }

abbrev pub after_fill : Sender → ℕ → Sender
after_fill k word = record k { view = with_word k.view word }

abbrev pub after_ready : Sender → ℕ → Sender
after_ready k stamp = record k { view = with_made k.view stamp }

abbrev pub after_freed : Sender → ℕ → Sender
after_freed k gate = record k { view = with_freed k.view gate }

abbrev pub after_look : Receiver → ℕ → Receiver
after_look k gate = record k { view = with_look k.view gate }

abbrev pub after_copy : Receiver → ℕ → Receiver
after_copy k word = record k { view = with_copy k.view word }

abbrev pub after_empty : Receiver → ℕ → Receiver
after_empty k stamp = record k { view = with_got k.view stamp }

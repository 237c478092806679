-- The views of the seats of a box.
use Rattle.std.specs.Prelude.{ℕ, [], ◌∷◌, ◌++◌, true, false}
use Rattle.part_box.specs.declared.view.Sending.{Sending}
use Rattle.part_box.specs.declared.view.Receiving.{Receiving}
use Rattle.part_box.specs.declared.view.View.{View}
use Rattle.part_box.specs.Steps.{nothing_sent, nothing_received}

-- The sender's steps

-- one more data word
abbrev pub with_word : Sending → ℕ → Sending
with_word s word = record s { filled = s.filled ++ word ∷ [] }

-- The receiver's steps

-- one more data word
abbrev pub with_copy : Receiving → ℕ → Receiving
with_copy r word = record r { copied = r.copied ++ word ∷ [] }

-- The views of seats

-- the one seat of a new box has both keys
abbrev pub first_view : View
first_view = record { sends = true; receives = true; sending = nothing_sent; receiving = nothing_received }

-- the sender's part of such a seat, and the receiver's
abbrev pub sender_part : View → View
sender_part v = record v { receives = false; receiving = nothing_received }

abbrev pub receiver_part : View → View
receiver_part v = record v { sends = false; sending = nothing_sent }

-- both parts again in one seat, which was the sender's
abbrev pub joined_view : View → View → View
joined_view v w = record v { receives = w.receives; receiving = w.receiving }

-- the seat that was the receiver's does nothing more
abbrev pub spent_view : View
spent_view = record { sends = false; receives = false; sending = nothing_sent; receiving = nothing_received }

abbrev pub with_sending : View → Sending → View
with_sending v s = record v { sending = s }

abbrev pub with_receiving : View → Receiving → View
with_receiving v r = record v { receiving = r }

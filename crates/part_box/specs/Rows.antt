-- What two boxes of two data words are left with: one whose thing was taken, and one whose thing wasn't.
use Rattle.std.specs.Prelude.{[], ◌∷◌, replicate, None, true, false}
use Rattle.part_box.specs.declared.settled.Settled.{Settled}
use Rattle.part_box.specs.declared.view.Receiving.{Receiving}
use Rattle.part_box.specs.declared.view.Sending.{Sending}
use Rattle.part_box.specs.Settling.{IsSettled}
use Rattle.part_box.specs.Steps.{nothing_received}

-- the words 7 and 8 were made ready with stamp 5
abbrev pub made_with_5 : Sending
made_with_5 = record {
  made = record { stamp = 5; words = 7 ∷ 8 ∷ [] } ∷ [];
  filled = [];
  is_open = false;
  front = 5;
  loads = [];
}

-- and taken with stamp 9, which the sender saw: its first look found the gate 11 of the thing, its second the gate 18
abbrev pub saw_9 : Sending
saw_9 = record {
  made = record { stamp = 5; words = 7 ∷ 8 ∷ [] } ∷ [];
  filled = [];
  is_open = true;
  front = 9;
  loads = record { word = 11; count = 1 } ∷ record { word = 18; count = 1 } ∷ [];
}

abbrev pub taken_with_9 : Receiving
taken_with_9 = record {
  got = record { stamp = 5; words = 7 ∷ 8 ∷ []; taken = 9 } ∷ [];
  seen = None;
  copied = [];
  loads = record { word = 11; count = 0 } ∷ [];
}

abbrev pub left_empty : Settled
left_empty = record { full = false; stamp = 9; words = replicate 16 0 }

abbrev pub left_full : Settled
left_full = record { full = true; stamp = 5; words = 7 ∷ 8 ∷ replicate 14 0 }

pub record SettledRows : Type 0 where
  pub taken : IsSettled 2 saw_9 taken_with_9 left_empty
  pub untaken : IsSettled 2 made_with_5 nothing_received left_full

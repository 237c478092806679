-- Worked values: what gates show, and what the six calls make of a key, computed.
use Rattle.std.specs.Prelude.{◌≡◌, ◌-◌, ◌^◌, [], ◌∷◌, Some, None, true, false, refl}
use Rattle.part_box.specs.Gate.{ready_stamp, taken_stamp}
use Rattle.part_box.specs.Keys.{BoxId, Sender, Receiver, new_sender, new_receiver, after_fill, after_ready, after_freed}
use Rattle.part_box.specs.Keys.{after_look, after_copy, after_empty}

-- 11 is twice 5, and one more
pub full_with_5 : ready_stamp 11 ≡ Some 5
full_with_5 = refl

pub not_taken_with_5 : taken_stamp 11 ≡ None
not_taken_with_5 = refl

-- 18 is twice 9
pub empty_with_9 : taken_stamp 18 ≡ Some 9
empty_with_9 = refl

pub not_ready_with_9 : ready_stamp 18 ≡ None
not_ready_with_9 = refl

-- the greatest stamp, full and empty
pub full_with_the_greatest : ready_stamp (2 ^ 63 - 1) ≡ None
full_with_the_greatest = refl

pub empty_with_the_greatest : taken_stamp (2 ^ 63 - 2) ≡ None
empty_with_the_greatest = refl

-- One thing of two words goes through: made with stamp 5, and taken with stamp 9

abbrev made_with_5 : BoxId → Sender
made_with_5 at = after_ready (after_fill (after_fill (new_sender at) 7) 8) 5

abbrev taken_with_9 : BoxId → Receiver
taken_with_9 at = after_empty (after_copy (after_copy (after_look (new_receiver at) 11) 7) 8) 9

pub sender_has_made : (at : BoxId) → (made_with_5 at).view ≡ record {
  made = record { stamp = 5; words = 7 ∷ 8 ∷ [] } ∷ [];
  filled = [];
  is_open = false;
  front = 5;
  loads = [];
}
sender_has_made at = refl

-- a look at the full gate shows the sender nothing
pub sender_still_waits : (at : BoxId) → (after_freed (made_with_5 at) 11).view ≡ record {
  made = record { stamp = 5; words = 7 ∷ 8 ∷ [] } ∷ [];
  filled = [];
  is_open = false;
  front = 5;
  loads = record { word = 11; count = 1 } ∷ [];
}
sender_still_waits at = refl

-- one at the gate of the take opens it again
pub sender_is_open : (at : BoxId) → (after_freed (made_with_5 at) 18).view ≡ record {
  made = record { stamp = 5; words = 7 ∷ 8 ∷ [] } ∷ [];
  filled = [];
  is_open = true;
  front = 9;
  loads = record { word = 18; count = 1 } ∷ [];
}
sender_is_open at = refl

pub receiver_has_got : (at : BoxId) → (taken_with_9 at).view ≡ record {
  got = record { stamp = 5; words = 7 ∷ 8 ∷ []; taken = 9 } ∷ [];
  seen = None;
  copied = [];
  loads = record { word = 11; count = 0 } ∷ [];
}
receiver_has_got at = refl

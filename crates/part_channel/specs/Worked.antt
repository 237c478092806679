-- Worked values: words of bytes, stamps, the end of a phase, and which boxes a partition waits for, computed.
use Rattle.std.specs.Prelude.{◌≡◌, [], ◌∷◌, set, Some, None, true, false, refl}
use Rattle.part_channel.specs.declared.progress.Progress.TheVariants.{Missed, Freed}
use Rattle.part_channel.specs.declared.progress.Take.TheVariants as take
use Rattle.part_channel.specs.Words.{bytes_of_words}
use Rattle.part_channel.specs.BoxWords.{words_of}
use Rattle.part_channel.specs.Sending.{SendView, one_freed, shown_progress, next_to_free, none_marked}
use Rattle.part_channel.specs.Receiving.{RecvView, one_taken, shown_take, next_box, next_box_of}

-- the lowest byte comes first, and behind the bytes come words 0
pub two_words_and_none : words_of (1 ∷ 2 ∷ 3 ∷ 4 ∷ 5 ∷ 6 ∷ 7 ∷ 8 ∷ 0 ∷ 0 ∷ 0 ∷ 0 ∷ 0 ∷ 0 ∷ 0 ∷ 128 ∷ []) 3
    ≡ 578437695752307201 ∷ 9223372036854775808 ∷ 0 ∷ []
two_words_and_none = refl

-- The stamp is above the clock and above the stamp in the gate

pub take_above_the_thing : shown_take 1 [] (Some 5) ≡ take.Taken (bytes_of_words []) 6
take_above_the_thing = refl

pub take_above_the_clock : shown_take 8 [] (Some 5) ≡ take.Taken (bytes_of_words []) 9
take_above_the_clock = refl

pub miss_is_next : shown_take 8 [] None ≡ take.Missed 9
miss_is_next = refl

pub freed_above_the_take : shown_progress 5 (Some 6) ≡ Freed 7
freed_above_the_take = refl

pub freed_above_the_clock : shown_progress 9 (Some 6) ≡ Freed 10
freed_above_the_clock = refl

pub unfreed_is_next : shown_progress 9 None ≡ Missed 10
unfreed_is_next = refl

-- Phase 4 of two partitions, of which the first is freed

abbrev last_to_free : SendView
last_to_free =
    record { keys = []; parts = 2; size = 8; phase = 4; ready = set (set none_marked 0 true) 1 true; freed = 1 }

pub last_is_next : next_to_free last_to_free ≡ Some 1
last_is_next = refl

-- the last one ends it
pub last_freed_ends : one_freed last_to_free ≡ record last_to_free { phase = 5; ready = none_marked; freed = 2 }
last_freed_ends = refl

pub none_is_next : next_to_free (one_freed last_to_free) ≡ None
none_is_next = refl

-- The sender cut 192 bytes into 3 of 64, this side into 2 of 96; these boxes are taken

abbrev cut_apart : RecvView
cut_apart =
    record { keys = []; parts = 2; size = 96; boxes = 3; bytes = 64; phase = 0; active = true; taken = none_marked }

abbrev with_box_0 : RecvView
with_box_0 = one_taken cut_apart 0

abbrev with_boxes_0_1 : RecvView
with_boxes_0_1 = one_taken with_box_0 1

pub first_waits_for_box_0 : next_box_of cut_apart 0 ≡ Some 0
first_waits_for_box_0 = refl

pub second_waits_for_box_1 : next_box_of cut_apart 1 ≡ Some 1
second_waits_for_box_1 = refl

pub first_waits_for_box_1 : next_box_of with_box_0 0 ≡ Some 1
first_waits_for_box_1 = refl

pub first_waits_no_more : next_box_of with_boxes_0_1 0 ≡ None
first_waits_no_more = refl

pub second_waits_for_box_2 : next_box_of with_boxes_0_1 1 ≡ Some 2
second_waits_for_box_2 = refl

-- a partition that isn't there waits for none
pub third_waits_for_none : next_box_of cut_apart 2 ≡ None
third_waits_for_none = refl

-- the last box that is taken ends the phase
pub last_taken_ends : one_taken with_boxes_0_1 2 ≡ record cut_apart { phase = 1; active = false; taken = none_marked }
last_taken_ends = refl

pub none_is_left : next_box (one_taken with_boxes_0_1 2) ≡ None
none_is_left = refl

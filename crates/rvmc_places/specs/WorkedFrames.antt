-- Worked chains of frames, of memories of a few words.
use Rattle.std.specs.Prelude.{◌≡◌, ℕ, List, [], ◌∷◌, refl}
use Rattle.std.specs.List.{flat_map}
use Rattle.rv_hart.specs.State.{State, fresh, write}
use Rattle.rv_memory.specs.Memory.{Memory, bytes_of}
use Rattle.rvmc_places.specs.Frames.{frames}
use Rattle.rvmc_places.specs.Places.{nearest_of}
use Rattle.rvmc_places.specs.declared.frames.Frame.{Frame}

-- a memory of these words, lowest first
abbrev memory_of : List ℕ → Memory
memory_of words = record { bytes = flat_map (λ word. bytes_of word 8) words; text = 0; pages = [] }

-- a hart whose x1 is 12, and whose s0 is this
abbrev hart_at : ℕ → State
hart_at s0 = write (write (fresh 0) 1 12) 8 s0

abbrev frame : ℕ → ℕ → ℕ → Frame
frame pointer back above = record { pointer = pointer; back = back; above = above }

abbrev Has : List ℕ → ℕ → List Frame → Type 0
Has words s0 chain = frames [] (memory_of words) (hart_at s0) ≡ chain

pub a_chain_of_three : Has (0 ∷ 0 ∷ 48 ∷ 28 ∷ 64 ∷ 24 ∷ 0 ∷ 20 ∷ []) 32
    (frame 32 28 48 ∷ frame 48 24 64 ∷ frame 64 20 0 ∷ [])
unfolding nearest_of
a_chain_of_three = refl

pub s0_that_points_at_itself : Has (0 ∷ 0 ∷ 32 ∷ 28 ∷ 0 ∷ []) 32 (frame 32 28 32 ∷ [])
unfolding nearest_of
s0_that_points_at_itself = refl

pub one_that_points_back : Has (0 ∷ 0 ∷ 48 ∷ 28 ∷ 32 ∷ 24 ∷ []) 32 (frame 32 28 48 ∷ frame 48 24 32 ∷ [])
unfolding nearest_of
one_that_points_back = refl

pub s0_at_the_end_of_memory : Has (0 ∷ 0 ∷ 0 ∷ 28 ∷ []) 32 (frame 32 28 0 ∷ [])
unfolding nearest_of
s0_at_the_end_of_memory = refl

pub s0_behind_the_end_of_memory : Has (0 ∷ 0 ∷ 0 ∷ 28 ∷ []) 40 []
unfolding nearest_of
s0_behind_the_end_of_memory = refl

pub a_caller_behind_the_end_of_memory : Has (0 ∷ 0 ∷ 40 ∷ 28 ∷ []) 32 (frame 32 28 40 ∷ [])
unfolding nearest_of
a_caller_behind_the_end_of_memory = refl

pub a_caller_that_is_unaligned : Has (0 ∷ 0 ∷ 36 ∷ 28 ∷ 0 ∷ 0 ∷ []) 32 (frame 32 28 36 ∷ [])
unfolding nearest_of
a_caller_that_is_unaligned = refl

pub a_leaf_that_keeps_its_return_address_in_x1 : Has (0 ∷ 0 ∷ 7 ∷ 48 ∷ 0 ∷ 24 ∷ []) 32
    (frame 32 12 48 ∷ frame 48 24 0 ∷ [])
unfolding nearest_of
a_leaf_that_keeps_its_return_address_in_x1 = refl

pub no_frame_pointer : Has (0 ∷ 0 ∷ 0 ∷ 28 ∷ []) 0 []
unfolding nearest_of
no_frame_pointer = refl

pub one_word_below_s0 : Has (28 ∷ 0 ∷ []) 8 []
unfolding nearest_of
one_word_below_s0 = refl

pub an_unaligned_s0 : Has (0 ∷ 0 ∷ 0 ∷ 28 ∷ 0 ∷ []) 33 []
unfolding nearest_of
an_unaligned_s0 = refl

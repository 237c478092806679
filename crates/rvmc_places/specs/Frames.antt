-- The frames of the functions that a hart is in: by their frame pointers, or by the way out of those that keep none.
use Rattle.std.proofs.Common.{zero, suc}
use Rattle.std.specs.Prelude.{ℕ, ◌-◌, ◌%◌, ◌&&◌, ◌==◌, nat_le, nat_lt, if◌then◌else◌, Bool, true, false, List, [], ◌∷◌, length, Option, None, Some}
use Rattle.std.specs.Prelude.{option_map}
use Rattle.std.specs.Option.{option_or}
use Rattle.rv_hart.specs.State.{State, fresh, in_mode, read, write}
use Rattle.rv_hart.specs.declared.state.Mode.TheVariants.{Running}
use Rattle.rv_image_types.specs.declared.images.Symbol.{Symbol}
use Rattle.rv_memory.specs.Access.{word_at}
use Rattle.rv_memory.specs.Memory.{Memory, value_at}
use Rattle.rvmc_places.specs.Pointers.{is_text, kept_pointer}
use Rattle.rvmc_places.specs.Ways.{called_at, led, way_out}
use Rattle.rvmc_places.specs.declared.frames.Frame.{Frame}
use Rattle.rvmc_places.specs.declared.pointers.Keeps.{Keeps}
use Rattle.rvmc_places.specs.declared.pointers.Keeps.TheVariants.{Leaf, Stored, Unknown, Without}

-- ---- by frame pointers

-- gcc and clang lay frames out so for RISC-V: s0 is the address behind the function's frame, the word below it is where
-- the function returns to, and the one below that its caller's s0 (RISC-V ELF psABI, Frame Pointer Convention)

-- a frame may end here: at a multiple of 8, behind two words of the memory
abbrev pub is_frame_end : Memory → ℕ → Bool
is_frame_end memory pointer = (pointer % 8 == 0) && (nat_le 16 pointer && nat_le pointer (length memory.bytes))

-- the frame that ends here: the word below its end is its return address, and the one below that the frame pointer of
-- its caller
abbrev pub frame_at : Memory → ℕ → Option Frame
frame_at memory pointer =
    if is_frame_end memory pointer then Some (record {
      pointer = pointer;
      back = value_at memory.bytes (pointer - 8) 8;
      above = value_at memory.bytes (pointer - 16) 8;
    }) else None

-- a function that calls no other needn't keep its return address, x1, in memory: gcc has the caller's frame pointer there
-- then
abbrev pub leaf_frame : State → Frame → Frame
leaf_frame hart frame = record { pointer = frame.pointer; back = read hart 1; above = frame.back }

-- which is higher than its own, where its caller keeps one
abbrev pub of_leaf : State → Frame → Frame
of_leaf hart frame = if nat_lt frame.pointer frame.back then leaf_frame hart frame else frame

-- ---- by ways out

-- the frame of the function that a hart is in. One that has jumped out of the text is at its end
abbrev pub way_of : Memory → State → Bool → Option Frame
way_of memory hart true = way_out memory hart
way_of memory hart false = led memory hart

-- the hart when the function of a frame has returned, as far as it is known
abbrev pub returned : Frame → State
returned frame = write (write (write (fresh frame.back) 1 frame.back) 2 frame.pointer) 8 frame.above

-- ---- chains

-- where none is found by ways out, the frame pointer, s0, which is x8, has to do
abbrev pub own_frame_by : Keeps → Memory → State → Option Frame
own_frame_by Stored memory hart = frame_at memory (read hart 8)
own_frame_by Leaf memory hart = option_map (leaf_frame hart) (frame_at memory (read hart 8))
own_frame_by Unknown memory hart = option_map (of_leaf hart) (frame_at memory (read hart 8))
own_frame_by Without memory hart =
    option_or (way_of memory hart (is_text (word_at memory hart.pc))) (frame_at memory (read hart 8))

-- the frame of the function that a hart is in, whatever its mode
abbrev pub own_frame : List Symbol → Memory → State → Option Frame
own_frame symbols memory hart = own_frame_by (kept_pointer symbols memory hart.pc) memory (in_mode hart Running)

abbrev pub caller_frame_by : Keeps → Memory → Frame → Option Frame
caller_frame_by Without memory frame = option_or (way_out memory (returned frame)) (frame_at memory frame.above)
caller_frame_by keeps memory frame = frame_at memory frame.above

-- that of the caller
abbrev pub caller_frame : List Symbol → Memory → Frame → Option Frame
caller_frame symbols memory frame = caller_frame_by (kept_pointer symbols memory (called_at frame)) memory frame

-- which is higher: the stack grows down
abbrev pub risen : Frame → Option Frame → Option Frame
risen frame None = None
risen frame (Some next) = if nat_lt frame.pointer next.pointer then Some next else None

abbrev pub frame_above : List Symbol → Memory → Frame → Option Frame
frame_above symbols memory frame = risen frame (caller_frame symbols memory frame)

-- a frame and those above it, at most so many
abbrev pub frames_from : List Symbol → Memory → ℕ → Option Frame → List Frame
frames_from symbols memory zero frame = []
frames_from symbols memory (suc most) None = []
frames_from symbols memory (suc most) (Some frame) =
    frame ∷ frames_from symbols memory most (frame_above symbols memory frame)

-- the frames of a hart, the innermost first: 64 at most
abbrev pub frames : List Symbol → Memory → State → List Frame
frames symbols memory hart = frames_from symbols memory 64 (own_frame symbols memory hart)

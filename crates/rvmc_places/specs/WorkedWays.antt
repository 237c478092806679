-- Worked frames of functions that keep no frame pointer, of a text as gcc and libgcc write it.
use Rattle.std.specs.Prelude.{◌≡◌, ℕ, true, None, List, [], ◌∷◌, ◌++◌, codes, refl}
use Rattle.std.specs.List.{flat_map}
use Rattle.rv_decode.specs.Decoded.{decoded}
use Rattle.rv_hart.specs.State.{State, fresh, write}
use Rattle.rv_image_types.specs.declared.images.Symbol.{Symbol}
use Rattle.rv_memory.specs.Memory.{Memory, bytes_of}
use Rattle.rvmc_places.specs.Frames.{frames}
use Rattle.rvmc_places.specs.Names.{line_named}
use Rattle.rvmc_places.specs.Places.{nearest_of}
use Rattle.rvmc_places.specs.Pointers.{kept_pointer, pointer_behind}
use Rattle.rvmc_places.specs.Ways.{advanced, way, way_out}
use Rattle.rvmc_places.specs.declared.frames.Frame.{Frame}
use Rattle.rvmc_places.specs.declared.pointers.Keeps.{Keeps}
use Rattle.rvmc_places.specs.declared.pointers.Keeps.TheVariants.{Stored, Without}
use Rattle.rvmc_places.specs.declared.pointers.Pointer.TheVariants.{Callers, Own}

-- words of instructions
abbrev words : List ℕ → List ℕ
words those = flat_map (λ word. bytes_of word 4) those

-- main, which keeps a frame pointer:
-- 0x00  addi sp, sp, -16    sd ra, 8(sp)    sd s0, 0(sp)    addi s0, sp, 16    jal ra, puts
-- 0x14  ld ra, 8(sp)    ld s0, 0(sp)    addi sp, sp, 16    ret
abbrev main : List ℕ
main =
    0xff010113 ∷ 0x00113423 ∷ 0x00813023 ∷ 0x01010413 ∷ 0x014000ef
    ∷ 0x00813083 ∷ 0x00013403 ∷ 0x01010113 ∷ 0x00008067 ∷ []

-- puts, which stores its registers by the function `save`, has s0 for an address of its own, and calls len:
-- 0x24  jal t0, save    addi s0, sp, 24    jal ra, len    j restore
abbrev puts : List ℕ
puts = 0x024002ef ∷ 0x01810413 ∷ 0x008000ef ∷ 0x0340006f ∷ []

-- len, which has a frame but no need of it:
-- 0x34  addi sp, sp, -16    sd ra, 8(sp)    ld ra, 8(sp)    addi sp, sp, 16    ret
abbrev len : List ℕ
len = 0xff010113 ∷ 0x00113423 ∷ 0x00813083 ∷ 0x01010113 ∷ 0x00008067 ∷ []

-- save and restore, as libgcc's __riscv_save_2 and __riscv_restore_2 without the registers above s0:
-- 0x48  addi sp, sp, -112    addi t1, x0, 5    sd s0, 96(sp)    sd ra, 104(sp)    slli t1, t1, 4    add sp, sp, t1    jr t0
-- 0x64  addi sp, sp, 16    ld s0, 0(sp)    ld ra, 8(sp)    addi sp, sp, 16    ret
abbrev saving : List ℕ
saving =
    0xf9010113 ∷ 0x00500313 ∷ 0x06813023 ∷ 0x06113423 ∷ 0x00431313 ∷ 0x00610133 ∷ 0x00028067
    ∷ 0x01010113 ∷ 0x00013403 ∷ 0x00813083 ∷ 0x01010113 ∷ 0x00008067 ∷ []

-- a loop without a frame, which ends by a branch that is taken; and a sp that isn't known:
-- 0x78  addi a0, a0, -1    beq a0, x0, 0x84    j 0x78    ret
-- 0x88  addi sp, a0, 0    ret
abbrev looping : List ℕ
looping = 0xfff50513 ∷ 0x00050463 ∷ 0xff9ff06f ∷ 0x00008067 ∷ 0x00050113 ∷ 0x00008067 ∷ []

-- the text is 144 bytes, and the stack the words behind it
abbrev memory_of : List ℕ → Memory
memory_of stack = record {
  bytes = words (main ++ puts ++ len ++ saving ++ looping) ++ flat_map (λ word. bytes_of word 8) stack;
  text = 144;
  pages = [];
}

abbrev symbols : List Symbol
symbols =
    record { address = 0; name = codes "main" }
    ∷ record { address = 0x24; name = codes "puts" }
    ∷ record { address = 0x34; name = codes "len" }
    ∷ record { address = 0x48; name = codes "save" }
    ∷ record { address = 0x64; name = codes "restore" }
    ∷ record { address = 0x78; name = codes "loop" }
    ∷ record { address = 0x88; name = codes "unknown" }
    ∷ []

-- from address 144 on: main's frame ends at 256, and has there its caller's s0, 0, and its return address, 12;
-- that of puts ends at 240, and has main's s0, 256, and its return address, 20; that of len ends at 208, and has its
-- return address, 48
abbrev full : List ℕ
full = 7 ∷ 7 ∷ 7 ∷ 7 ∷ 7 ∷ 7 ∷ 7 ∷ 48 ∷ 7 ∷ 7 ∷ 256 ∷ 20 ∷ 0 ∷ 12 ∷ []

-- a hart at a pc, with its sp, ra and s0, and t0 and t1
abbrev hart_at : ℕ → ℕ → ℕ → ℕ → ℕ → ℕ → State
hart_at pc sp ra s0 t0 t1 = write (write (write (write (write (fresh pc) 2 sp) 1 ra) 8 s0) 5 t0) 6 t1

abbrev frame : ℕ → ℕ → ℕ → Frame
frame pointer back above = record { pointer = pointer; back = back; above = above }

abbrev Has : State → List Frame → Type 0
Has hart chain = frames symbols (memory_of full) hart ≡ chain

-- len in its body, where ra is whatever was called last; it is called by puts, and that by main
pub in_a_body : Has (hart_at 0x3c 192 99 216 0 0) (frame 208 48 216 ∷ frame 240 20 256 ∷ frame 256 12 0 ∷ [])
unfolding nearest_of line_named decoded advanced way way_out
in_a_body = refl

-- before it has its frame, and when it has none any more
pub before_the_frame : Has (hart_at 0x34 208 48 216 0 0) (frame 208 48 216 ∷ frame 240 20 256 ∷ frame 256 12 0 ∷ [])
unfolding nearest_of line_named decoded advanced way way_out
before_the_frame = refl

pub before_ra_is_stored : Has (hart_at 0x38 192 48 216 0 0) (frame 208 48 216 ∷ frame 240 20 256 ∷ frame 256 12 0 ∷ [])
unfolding nearest_of line_named decoded advanced way way_out
before_ra_is_stored = refl

pub behind_the_frame : Has (hart_at 0x44 208 48 216 0 0) (frame 208 48 216 ∷ frame 240 20 256 ∷ frame 256 12 0 ∷ [])
unfolding nearest_of line_named decoded advanced way way_out
behind_the_frame = refl

-- puts before `save`, in it and in `restore`
pub before_the_call_of_save : Has (hart_at 0x24 240 20 256 0 0) (frame 240 20 256 ∷ frame 256 12 0 ∷ [])
unfolding nearest_of line_named decoded advanced way way_out
before_the_call_of_save = refl

pub in_save : Has (hart_at 0x58 128 20 256 0x28 5) (frame 240 20 256 ∷ frame 256 12 0 ∷ [])
unfolding nearest_of line_named decoded advanced way way_out
in_save = refl

pub in_restore : Has (hart_at 0x68 224 48 216 0 0) (frame 240 20 256 ∷ frame 256 12 0 ∷ [])
unfolding nearest_of line_named decoded advanced way way_out
in_restore = refl

-- main before it has its frame pointer and when its caller's is restored, called where it calls puts
pub before_the_frame_pointer : Has (hart_at 4 240 20 7 0 0) (frame 256 20 7 ∷ [])
unfolding nearest_of line_named decoded advanced way way_out
before_the_frame_pointer = refl

pub behind_the_frame_pointer : Has (hart_at 0x1c 240 20 7 0 0) (frame 256 20 7 ∷ [])
unfolding nearest_of line_named decoded advanced way way_out
behind_the_frame_pointer = refl

-- a leaf: puts calls the loop in place of len
pub in_a_loop : Has (hart_at 0x78 208 48 216 0 0) (frame 208 48 216 ∷ frame 240 20 256 ∷ frame 256 12 0 ∷ [])
unfolding nearest_of line_named decoded advanced way way_out
in_a_loop = refl

-- a jump out of the text from puts, as by a wrong function pointer
pub out_of_the_text : Has (hart_at 4096 208 48 216 0 0) (frame 208 48 216 ∷ frame 240 20 256 ∷ frame 256 12 0 ∷ [])
unfolding nearest_of line_named decoded advanced way way_out
out_of_the_text = refl

-- where no way leads out: by s0, which is main's. So puts is left out
pub no_way : Has (hart_at 0x88 208 48 256 0 0) (frame 256 12 0 ∷ [])
unfolding nearest_of line_named decoded advanced way way_out
no_way = refl

-- a return to where nothing was called: the same
pub not_behind_a_call : Has (hart_at 0x44 208 44 256 0 0) (frame 256 12 0 ∷ [])
unfolding nearest_of line_named decoded advanced way way_out
not_behind_a_call = refl

-- whether s0 is the frame pointer: in main it is from behind `addi s0, sp, 16` to `ld s0, 0(sp)`; in puts it is another
-- address
abbrev HasPointer : ℕ → Keeps → Type 0
HasPointer at keeps = kept_pointer symbols (memory_of full) at ≡ keeps

pub too_early_in_main : HasPointer 0x0c Without
unfolding nearest_of line_named decoded
too_early_in_main = refl

pub in_main : HasPointer 0x10 Stored
unfolding nearest_of line_named decoded
in_main = refl

pub at_the_end_of_main : HasPointer 0x18 Stored
unfolding nearest_of line_named decoded
at_the_end_of_main = refl

pub too_late_in_main : HasPointer 0x1c Without
unfolding nearest_of line_named decoded
too_late_in_main = refl

pub in_puts : HasPointer 0x2c Without
unfolding nearest_of line_named decoded
in_puts = refl

pub behind_the_text : HasPointer 144 Without
unfolding nearest_of line_named decoded
behind_the_text = refl

-- behind `sd s0, 8(sp)    addi s0, sp, 16` no return address is stored
pub a_leaf : pointer_behind (decoded 0x01010413) (pointer_behind (decoded 0x00813423) (Callers None)) ≡ Own true
unfolding decoded
a_leaf = refl

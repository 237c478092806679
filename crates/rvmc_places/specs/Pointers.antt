-- Whether a function keeps a frame pointer: s0 (x8) is the address behind its frame then.
use Rattle.std.proofs.Common.{zero, suc}
use Rattle.std.specs.Prelude.{ℕ, ◌+◌, ◌-◌, ◌/◌, ◌==◌, ◌&&◌, if◌then◌else◌, Bool, true, false, List}
use Rattle.std.specs.Prelude.{Option, None, Some}
use Rattle.rv_decode.specs.declared.instruction.ImmOp.{ImmOp}
use Rattle.rv_decode.specs.declared.instruction.ImmOp.TheVariants.{Addi}
use Rattle.rv_decode.specs.declared.instruction.Instr.{Instr}
use Rattle.rv_decode.specs.declared.instruction.Instr.TheVariants.{Imm, Jal, Jalr, Load, Store}
use Rattle.rv_decode.specs.declared.instruction.LoadOp.{LoadOp}
use Rattle.rv_decode.specs.declared.instruction.LoadOp.TheVariants.{Ld}
use Rattle.rv_decode.specs.declared.instruction.StoreOp.{StoreOp}
use Rattle.rv_decode.specs.declared.instruction.StoreOp.TheVariants.{Sd}
use Rattle.rv_hart.specs.Effect.{offset}
use Rattle.rv_image_types.specs.declared.images.Symbol.{Symbol}
use Rattle.rv_memory.specs.Access.{word_at}
use Rattle.rv_memory.specs.Memory.{Memory}
use Rattle.rvmc_places.specs.Places.{nearest_of}
use Rattle.rvmc_places.specs.Ways.{instruction_at}
use Rattle.rvmc_places.specs.declared.near.Kind.TheVariants as kind
use Rattle.rvmc_places.specs.declared.pointers.Keeps.{Keeps}
use Rattle.rvmc_places.specs.declared.pointers.Keeps.TheVariants.{Leaf, Stored, Unknown, Without}
use Rattle.rvmc_places.specs.declared.pointers.Pointer.{Pointer}
use Rattle.rvmc_places.specs.declared.pointers.Pointer.TheVariants.{Callers, Own, Restored}

-- A function that keeps one stores its caller's s0, `sd s0, n(sp)`, and then sets its own, `addi s0, sp, n + 16`; or
-- `n + 8`, where it calls no other and stores no return address between. Before it returns it restores its caller's.

abbrev pub is_sd : StoreOp → Bool
is_sd Sd = true
is_sd op = false

abbrev pub is_addi : ImmOp → Bool
is_addi Addi = true
is_addi op = false

abbrev pub is_ld : LoadOp → Bool
is_ld Ld = true
is_ld op = false

-- whether s0 is set so to this offset from sp, by that of the stored s0; and where, whether no return address is stored
abbrev pub is_set : Option ℕ → ℕ → Option Bool
is_set None pointer = None
is_set (Some stored) pointer =
    if (pointer == stored + 16) then Some false else (if (pointer == stored + 8) then Some true else None)

abbrev pub set_or : Option Bool → Option ℕ → Pointer
set_or None stored = Callers stored
set_or (Some leaf) stored = Own leaf

-- what s0 is behind an instruction: where it was the caller's, and stored at this offset from sp, or nowhere
abbrev pub from_callers : Instr → Option ℕ → Pointer
from_callers (Store op rs1 rs2 off) stored =
    if is_sd op && ((rs1 == 2) && (rs2 == 8)) then Callers (Some (offset 0 off)) else Callers stored
from_callers (Imm op rd rs1 imm) stored =
    if is_addi op && ((rd == 8) && (rs1 == 2)) then set_or (is_set stored (offset 0 imm)) stored else Callers stored
from_callers instruction stored = Callers stored

-- where it was the function's own
abbrev pub from_own : Instr → Bool → Pointer
from_own (Load op rd rs1 off) leaf = if is_ld op && ((rd == 8) && (rs1 == 2)) then Restored leaf else Own leaf
from_own instruction leaf = Own leaf

-- where it was restored: behind the return, or a jump in place of it, it is as before
abbrev pub behind_jump : ℕ → Bool → Pointer
behind_jump rd leaf = if (rd == 0) then Own leaf else Restored leaf

abbrev pub from_restored : Instr → Bool → Pointer
from_restored (Jal rd off) leaf = behind_jump rd leaf
from_restored (Jalr rd rs1 off) leaf = behind_jump rd leaf
from_restored instruction leaf = Restored leaf

abbrev pub pointer_after : Instr → Pointer → Pointer
pointer_after instruction (Callers stored) = from_callers instruction stored
pointer_after instruction (Own leaf) = from_own instruction leaf
pointer_after instruction (Restored leaf) = from_restored instruction leaf

abbrev pub pointer_behind : Option Instr → Pointer → Pointer
pointer_behind None pointer = pointer
pointer_behind (Some instruction) pointer = pointer_after instruction pointer

-- behind so many instructions from an address on
abbrev pub pointer_at : Memory → ℕ → ℕ → Pointer → Pointer
pointer_at memory at zero pointer = pointer
pointer_at memory at (suc left) pointer =
    pointer_at memory (at + 4) left (pointer_behind (instruction_at memory at) pointer)

-- whether a function keeps a frame pointer where s0 is this
abbrev pub keeps_by : Pointer → Keeps
keeps_by (Own false) = Stored
keeps_by (Own true) = Leaf
keeps_by pointer = Without

abbrev pub is_text : Option ℕ → Bool
is_text None = false
is_text (Some word) = true

-- at a place, by the instructions from its label on
abbrev pub keeps_from : Memory → ℕ → Option Symbol → Keeps
keeps_from memory at None = Unknown
keeps_from memory at (Some label) =
    if is_text (word_at memory at)
    then keeps_by (pointer_at memory label.address ((at - label.address) / 4) (Callers None)) else Without

-- and by its nearest label
abbrev pub kept_pointer : List Symbol → Memory → ℕ → Keeps
kept_pointer symbols memory at = keeps_from memory at (nearest_of kind.Label symbols at)

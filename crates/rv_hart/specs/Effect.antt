-- What an instruction leaves of a hart and its memory
-- (RISC-V Unprivileged ISA 20191213, chapters 2, 5 and 7; the traps are the emulator's).
use Rattle.std.specs.Prelude.{ℕ, ◌+◌, ◌-◌, ◌%◌, ◌==◌, if◌then◌else◌, ℤ, pos, ◌+ℤ◌, Option, Some, None}
use Rattle.rv_decode.specs.declared.instruction.Instr.{Instr}
use Rattle.rv_decode.specs.declared.instruction.Instr.TheVariants.{Upper, Jal, Jalr, Branch, Load, Store, Imm, Shift}
use Rattle.rv_decode.specs.declared.instruction.Instr.TheVariants.{Arith, Fence, Ecall, Ebreak}
use Rattle.rv_decode.specs.declared.instruction.LoadOp.{LoadOp}
use Rattle.rv_memory.specs.Memory.{Memory, value_at}
use Rattle.rv_memory.specs.Access.{size_of, load_trap, store_trap, stored}
use Rattle.rv_memory.specs.declared.fault.Cause.{Cause}
use Rattle.rv_memory.specs.declared.fault.Cause.TheVariants.{InstructionMisaligned, Breakpoint}
use Rattle.rv_hart.specs.Numbers.{in_64}
use Rattle.rv_hart.specs.Results.{upper_result, arith_result, imm_result, shift_result, is_taken, load_width}
use Rattle.rv_hart.specs.Results.{load_result, store_width}
use Rattle.rv_hart.specs.State.{State, read, write, at_pc, in_mode}
use Rattle.rv_hart.specs.declared.state.Did.{Did}
use Rattle.rv_hart.specs.declared.state.Did.TheVariants.{Plain, Call, Break, Trap}
use Rattle.rv_hart.specs.declared.state.Mode.TheVariants.{Trapped}

-- what a step leaves, and of what kind it was
pub record After : Type 0 where
  pub did : Did
  pub state : State
  pub memory : Memory

-- the address of the next instruction
abbrev pub next : State → ℕ
next s = in_64 (pos (s.pc + 4))

-- the address of a signed offset from a number
abbrev pub offset : ℕ → ℤ → ℕ
offset base off = in_64 (pos base +ℤ off)

-- a target with bit 0 cleared (2.5, JALR)
abbrev pub even : ℕ → ℕ
even target = target - target % 2

-- a plain instruction that leaves this state
abbrev pub plain : State → Memory → After
plain s m = record { did = Plain; state = s; memory = m }

-- a trap: the hart stops where it is, and nothing else changes
abbrev pub trapped : Cause → State → Memory → After
trapped cause s m = record { did = Trap cause; state = in_mode s (Trapped cause s.pc); memory = m }

-- a value for rd, and on to the next instruction
unfoldable pub gives : ℕ → ℕ → State → Memory → After
gives d value s m = plain (at_pc (write s d value) (next s)) m

-- a jump: rd gets the next instruction's address, unless the target isn't a multiple of 4 (2.5)
unfoldable pub jumps : ℕ → ℕ → State → Memory → After
jumps d target s m =
    if (target % 4 == 0) then plain (at_pc (write s d (next s)) target) m else trapped InstructionMisaligned s m

-- a branch that is taken (2.5)
unfoldable pub after_branch : ℕ → State → Memory → After
after_branch target s m = if (target % 4 == 0) then plain (at_pc s target) m else trapped InstructionMisaligned s m

-- a load from an address, by its trap
abbrev pub after_load : Option Cause → LoadOp → ℕ → ℕ → State → Memory → After
after_load None op d address s m = gives d (load_result op (value_at m.bytes address (size_of (load_width op)))) s m
after_load (Some cause) op d address s m = trapped cause s m

-- a store that leaves this memory, by its trap
abbrev pub after_store : Option Cause → Memory → State → Memory → After
after_store None new s m = plain (at_pc s (next s)) new
after_store (Some cause) new s m = trapped cause s m

-- the effect of an instruction: computations 2.4 and 5.2, jumps and branches 2.5, loads and stores 2.6 and 5.3, fence
-- 2.7, ecall (left to the caller) and ebreak 2.8
abbrev pub after : Instr → State → Memory → After
after (Upper op d imm) s m = gives d (upper_result op s.pc imm) s m
after (Jal d off) s m = jumps d (offset s.pc off) s m
after (Jalr d r off) s m = jumps d (even (offset (read s r) off)) s m
after (Branch op r t off) s m =
    if is_taken op (read s r) (read s t) then after_branch (offset s.pc off) s m else plain (at_pc s (next s)) m
after (Load op d r off) s m =
    let address = offset (read s r) off in
    after_load (load_trap m address (size_of (load_width op))) op d address s m
after (Store op r t off) s m =
    let address = offset (read s r) off in
    let size = size_of (store_width op) in
    after_store (store_trap m address size) (stored m address size (read s t)) s m
after (Imm op d r imm) s m = gives d (imm_result op (read s r) imm) s m
after (Shift op d r amount) s m = gives d (shift_result op (read s r) amount) s m
after (Arith op d r t) s m = gives d (arith_result op (read s r) (read s t)) s m
after Fence s m = plain (at_pc s (next s)) m
after Ecall s m = record { did = Call; state = s; memory = m }
after Ebreak s m = record { did = Break; state = in_mode s (Trapped Breakpoint s.pc); memory = m }

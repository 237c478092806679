-- The registers, the pc and the mode of a hart (RISC-V Unprivileged ISA 20191213, 2.1 and 5.1).
use Rattle.std.specs.Prelude.{ℕ, ◌-◌, ◌*◌, ◌==◌, if◌then◌else◌, Bool, true, false, List, replicate, slice_index, slice_set}
use Rattle.rv_hart.specs.declared.state.Mode.{Mode}
use Rattle.rv_hart.specs.declared.state.Mode.TheVariants.{Running, Waiting, Ended, Trapped}

pub record State : Type 0 where
  pub regs : List ℕ
  pub pc : ℕ
  pub mode : Mode

-- what a register reads: x0 reads 0
abbrev pub read : State → ℕ → ℕ
read state number = if (number == 0) then 0 else slice_index state.regs number

-- a write to a register: one to x0 is dropped
abbrev pub write : State → ℕ → ℕ → State
write state number value =
    record state { regs = if (number == 0) then state.regs else slice_set state.regs number value }

-- the state at another pc
abbrev pub at_pc : State → ℕ → State
at_pc state pc = record state { pc = pc }

-- the state in another mode
abbrev pub in_mode : State → Mode → State
in_mode state mode = record state { mode = mode }

-- a hart in this mode is stopped for good: it ended or trapped (docs/MACHINE.md, A hart; RISC-V has no word for this)
abbrev pub is_stopped : Mode → Bool
is_stopped Running = false
is_stopped (Waiting wait) = false
is_stopped (Ended code) = true
is_stopped (Trapped cause pc) = true

-- a running hart whose registers are all 0
abbrev pub fresh : ℕ → State
fresh pc = record { regs = replicate 32 0; pc = pc; mode = Running }

-- a hart as its rank is loaded: x2 is the end of its own 4,096 bytes of stack, x10 its number, x11 the rank's, and the
-- pc is the program's entry
abbrev pub start_state : ℕ → ℕ → ℕ → ℕ → State
start_state entry memory_size hart rank =
    write (write (write (fresh entry) 2 (memory_size - 4096 * hart)) 10 hart) 11 rank

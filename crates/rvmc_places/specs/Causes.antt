-- Why a hart trapped, as text.
use Rattle.std.specs.Prelude.{ℕ, ◌^◌, ◌||◌, nat_le, Bool, true, false, List, ◌++◌, codes, Option, None, Some}
use Rattle.std.specs.Fmt.{decimal}
use Rattle.rv_hart.specs.State.{State, read}
use Rattle.rv_hart.specs.declared.state.Mode.{Mode}
use Rattle.rv_hart.specs.declared.state.Mode.TheVariants.{Trapped}
use Rattle.rv_memory.specs.Access.{word_at}
use Rattle.rv_memory.specs.Fault.{cause_number}
use Rattle.rv_memory.specs.Memory.{Memory}
use Rattle.rv_memory.specs.declared.fault.Cause.{Cause}
use Rattle.rv_memory.specs.declared.fault.Cause.TheVariants.{Breakpoint, IllegalInstruction, InstructionAccess}
use Rattle.rv_memory.specs.declared.fault.Cause.TheVariants.{InstructionMisaligned, LoadAccess, LoadMisaligned}
use Rattle.rv_memory.specs.declared.fault.Cause.TheVariants.{StoreAccess, StoreMisaligned}

-- the causes of traps, as docs/MACHINE.md lists them
abbrev pub cause_name : Cause → List ℕ
cause_name InstructionMisaligned = codes "jump to a misaligned address"
cause_name InstructionAccess = codes "jump out of the text"
cause_name IllegalInstruction = codes "illegal instruction"
cause_name Breakpoint = codes "breakpoint"
cause_name LoadMisaligned = codes "misaligned load"
cause_name LoadAccess = codes "load outside memory"
cause_name StoreMisaligned = codes "misaligned store"
cause_name StoreAccess = codes "store outside memory or into the text"

abbrev pub is_some_word : Option ℕ → Bool
is_some_word None = false
is_some_word (Some word) = true

-- a stack has grown into the text, or below address 0: the stack pointer, x2, is there. rvmc-cc has the stacks straight
-- above the text
abbrev pub is_stack_full : Memory → State → Bool
is_stack_full memory hart = is_some_word (word_at memory (read hart 2)) || nat_le (2 ^ 63) (read hart 2)

-- whether a store fails because the stack is full, of a hart that traps by this cause
abbrev pub is_overflow : Memory → State → Cause → Bool
is_overflow memory hart StoreAccess = is_stack_full memory hart
is_overflow memory hart cause = false

-- whether a hart has trapped because its stack is full
abbrev pub has_overflowed : Memory → State → Mode → Bool
has_overflowed memory hart (Trapped cause at) = is_overflow memory hart cause
has_overflowed memory hart mode = false

-- a store that fails because the stack is full is told as that
abbrev pub trap_name : Bool → Cause → List ℕ
trap_name true cause = codes "stack overflow"
trap_name false cause = cause_name cause

-- `trapped 7 (stack overflow)`
abbrev pub trapped_text : Bool → Cause → List ℕ
trapped_text overflow cause =
    codes "trapped " ++ (decimal (cause_number cause) ++ (codes " (" ++ (trap_name overflow cause ++ codes ")")))

-- `trapped 7 (stack overflow) at `, before the place
abbrev pub trap_text : Memory → State → Cause → List ℕ
trap_text memory hart cause = trapped_text (is_overflow memory hart cause) cause ++ codes " at "

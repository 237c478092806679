-- What an instruction left.
use Rattle.std.specs.Prelude.{ℕ, ◌%◌, ◌^◌, ◌==◌, if◌then◌else◌, Bool, false, List, [], ◌++◌, codes, Option, Some, None}
use Rattle.rv_decode.specs.Decoded.{decoded}
use Rattle.rv_decode.specs.Text.{instr_text}
use Rattle.rv_decode.specs.declared.instruction.Instr.{Instr}
use Rattle.rv_decode.specs.declared.instruction.Instr.TheVariants.{Upper, Jal, Jalr, Branch, Load, Store, Imm, Shift}
use Rattle.rv_decode.specs.declared.instruction.Instr.TheVariants.{Arith, Fence, Ecall, Ebreak}
use Rattle.rv_decode.specs.declared.instruction.StoreOp.{StoreOp}
use Rattle.rv_decode.specs.declared.instruction.StoreOp.TheVariants.{Sb, Sh, Sw, Sd}
use Rattle.rv_hart.specs.Effect.{offset}
use Rattle.rv_hart.specs.Results.{is_taken}
use Rattle.rv_hart.specs.State.{State, read}
use Rattle.rv_hart.specs.declared.state.Mode.{Mode}
use Rattle.rv_hart.specs.declared.state.Mode.TheVariants.{Trapped}
use Rattle.rv_memory.specs.declared.fault.Cause.TheVariants.{IllegalInstruction, InstructionAccess}
use Rattle.rvmc_places.specs.Causes.{trapped_text}
use Rattle.rvmc_places.specs.Places.{hex_text}

-- a register's new value, as ` = 0xa6968`; x0 has none
abbrev pub value_text : ℕ → State → List ℕ
value_text d after = if (d == 0) then [] else codes " = " ++ hex_text (read after d)

-- what a store writes of a register: its lowest bytes
abbrev pub stored_value : StoreOp → ℕ → ℕ
stored_value Sb value = value % 2 ^ 8
stored_value Sh value = value % 2 ^ 16
stored_value Sw value = value % 2 ^ 32
stored_value Sd value = value

-- an address and the value that is stored there, as ` [0xff8] = 0x2a`
abbrev pub store_text : ℕ → ℕ → List ℕ
store_text address value = codes " [" ++ (hex_text address ++ (codes "] = " ++ hex_text value))

-- what an instruction left that was done, of the hart before and after it
abbrev pub left_text : Instr → State → State → List ℕ
left_text (Upper op d imm) before after = value_text d after
left_text (Jal d off) before after = value_text d after
left_text (Jalr d r off) before after = value_text d after
left_text (Branch op r t off) before after =
    if is_taken op (read before r) (read before t) then codes " taken" else codes " not taken"
left_text (Load op d r off) before after = value_text d after
left_text (Store op r t off) before after =
    store_text (offset (read before r) off) (stored_value op (read before t))
left_text (Imm op d r imm) before after = value_text d after
left_text (Shift op d r amount) before after = value_text d after
left_text (Arith op d r t) before after = value_text d after
left_text Fence before after = []
left_text Ecall before after = []
left_text Ebreak before after = []

-- of an instruction that may have trapped, perhaps because its hart's stack is full
abbrev pub outcome_text : Instr → State → State → Bool → Mode → List ℕ
outcome_text i before after overflow (Trapped cause at) = codes " " ++ trapped_text overflow cause
outcome_text i before after overflow mode = left_text i before after

-- of the word at the pc: a word that is no instruction traps
abbrev pub word_text : ℕ → Option Instr → State → State → Bool → List ℕ
word_text word (Some i) before after overflow = instr_text i ++ outcome_text i before after overflow after.mode
word_text word None before after overflow =
    codes ".word " ++ (hex_text word ++ (codes " " ++ trapped_text false IllegalInstruction))

-- there is none where the pc isn't at text
abbrev pub instruction_text : Option ℕ → State → State → Bool → List ℕ
instruction_text (Some word) before after overflow = word_text word (decoded word) before after overflow
instruction_text None before after overflow = trapped_text false InstructionAccess

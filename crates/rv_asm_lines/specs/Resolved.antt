-- The instructions of a mnemonic and its operands (RISC-V Unprivileged ISA 20191213, chapter 25).
use Rattle.std.specs.Prelude.{ℕ, ◌-◌, ◌*◌, ◌^◌, ℤ, pos, negsuc, ◌+ℤ◌, ◌-ℤ◌, ◌*ℤ◌, List, [], ◌∷◌, map, length, Bool}
use Rattle.std.specs.Prelude.{◌&&◌, Option, Some, None, Result, Ok, Err, int_le, int_rem, if◌then◌else◌}
use Rattle.std.specs.Ordering.{int_eq}
use Rattle.std.specs.Int.{int_div_euclid, int_rem_euclid}
use Rattle.std.specs.Str.{bytes_eq}
use Rattle.rv_decode.specs.declared.instruction.Instr.{Instr}
use Rattle.rv_decode.specs.declared.instruction.Instr.TheVariants as instr
use Rattle.rv_decode.specs.declared.instruction.UpperOp.{UpperOp}
use Rattle.rv_decode.specs.declared.instruction.UpperOp.TheVariants.{Lui}
use Rattle.rv_decode.specs.declared.instruction.BranchOp.{BranchOp}
use Rattle.rv_decode.specs.declared.instruction.LoadOp.{LoadOp}
use Rattle.rv_decode.specs.declared.instruction.StoreOp.{StoreOp}
use Rattle.rv_decode.specs.declared.instruction.ImmOp.{ImmOp}
use Rattle.rv_decode.specs.declared.instruction.ImmOp.TheVariants.{Addi, Addiw}
use Rattle.rv_decode.specs.declared.instruction.ShiftOp.{ShiftOp}
use Rattle.rv_decode.specs.Table.{amount_bits, written_word}
use Rattle.rv_asm_tokens.specs.declared.fault.AsmFaultKind.{AsmFaultKind}
use Rattle.rv_asm_tokens.specs.declared.fault.AsmFaultKind.TheVariants as kinds
use Rattle.rv_asm_tokens.specs.Fault.{◌>>=◌, wanted}
use Rattle.rv_asm_statements.specs.declared.filled.Target.{Target as Goal}
use Rattle.rv_asm_statements.specs.declared.filled.Filled.{Filled}
use Rattle.rv_asm_statements.specs.declared.mnemonics.Use.{Use}
use Rattle.rv_asm_statements.specs.declared.rows.Slot.{Slot}
use Rattle.rv_asm_statements.specs.declared.rows.Slot.TheVariants.{First, Second, Third, Zero, Link}
use Rattle.rv_asm_statements.specs.declared.rows.Amount.{Amount}
use Rattle.rv_asm_statements.specs.declared.rows.Amount.TheVariants.{Written, Given}
use Rattle.rv_asm_statements.specs.declared.rows.Template.{Template}
use Rattle.rv_asm_statements.specs.declared.rows.Template.TheVariants as template

-- labels and their addresses
abbrev pub address_in : List ℕ → List (List ℕ × ℕ) → Option ℕ
address_in w [] = None
address_in w (l ∷ ls) = if bytes_eq w l.0 then Some l.1 else address_in w ls

-- ---- numbers

abbrev pub is_between : ℤ → ℤ → ℤ → Bool
is_between low high z = int_le low z && int_le z high

-- a number within two bounds
unfoldable pub ranged : ℤ → ℤ → ℤ → Result ℤ AsmFaultKind
ranged low high z = if is_between low high z then Ok z else Err (kinds.Range z)

-- an even number within two bounds
unfoldable pub even_ranged : ℤ → ℤ → ℤ → Result ℤ AsmFaultKind
even_ranged low high z =
    if is_between low high z && int_eq (int_rem z (pos 2)) (pos 0) then Ok z else Err (kinds.Range z)

-- an immediate of 12 bits
abbrev pub imm_12 : ℤ → Result ℤ AsmFaultKind
imm_12 z = ranged (negsuc 2047) (pos 2047) z

-- what is added to an address: a number, or how far a label and the number behind it are from the instruction
unfoldable pub label_offset : List (List ℕ × ℕ) → ℕ → ℤ → Option (List ℕ) → Result ℤ AsmFaultKind
label_offset labels at z None = Ok z
label_offset labels at z (Some w) = wanted (address_in w labels) kinds.LabelMissing >>= λ a. Ok ((pos a +ℤ z) -ℤ pos at)

abbrev pub goal_offset : List (List ℕ × ℕ) → ℕ → Goal → Result ℤ AsmFaultKind
goal_offset labels at goal = label_offset labels at goal.number goal.label

-- the immediate of lui and auipc, as it is added: the number's 20 bits, above 12 bits that are 0
unfoldable pub upper_immediate : ℤ → ℤ
upper_immediate z = if int_le z (pos 524287) then z *ℤ pos 4096 else (z -ℤ pos 1048576) *ℤ pos 4096

-- z is 4096 times its high part, and its low part, which has 12 bits with a sign
abbrev pub high_part : ℤ → ℤ
high_part z = int_div_euclid (z +ℤ pos 2048) (pos 4096)

abbrev pub low_part : ℤ → ℤ
low_part z = z -ℤ (pos 4096 *ℤ high_part z)

-- ---- operands

abbrev pub register_at : Slot → Filled → ℕ
register_at First o = o.first
register_at Second o = o.second
register_at Third o = o.third
register_at Zero o = 0
register_at Link o = 1

abbrev pub number_given : Amount → Filled → ℤ
number_given Written o = o.target.number
number_given (Given z) o = z

-- a shift amount, which is not negative
abbrev pub amount_of : ℤ → ℕ
amount_of (pos n) = n
amount_of (negsuc n) = 0

-- ---- instructions of registers and a number, which has to fit

-- a number of 20 bits
abbrev pub upper_of : UpperOp → ℕ → ℤ → Result Instr AsmFaultKind
upper_of op d z = ranged (pos 0) (pos 1048575) z >>= λ n. Ok (instr.Upper op d (upper_immediate n))

-- an even offset of 21 bits with a sign
abbrev pub jal_of : ℕ → ℤ → Result Instr AsmFaultKind
jal_of d z = even_ranged (negsuc 1048575) (pos 1048575) z >>= λ off. Ok (instr.Jal d off)

-- an even offset of 13 bits with a sign
abbrev pub branch_of : BranchOp → ℕ → ℕ → ℤ → Result Instr AsmFaultKind
branch_of op s t z = even_ranged (negsuc 4095) (pos 4095) z >>= λ off. Ok (instr.Branch op s t off)

-- 12 bits with a sign
abbrev pub jalr_of : ℕ → ℕ → ℤ → Result Instr AsmFaultKind
jalr_of d s z = imm_12 z >>= λ off. Ok (instr.Jalr d s off)

abbrev pub load_of : LoadOp → ℕ → ℕ → ℤ → Result Instr AsmFaultKind
load_of op d s z = imm_12 z >>= λ off. Ok (instr.Load op d s off)

abbrev pub store_of : StoreOp → ℕ → ℕ → ℤ → Result Instr AsmFaultKind
store_of op s t z = imm_12 z >>= λ off. Ok (instr.Store op s t off)

abbrev pub imm_of : ImmOp → ℕ → ℕ → ℤ → Result Instr AsmFaultKind
imm_of op d s z = imm_12 z >>= λ imm. Ok (instr.Imm op d s imm)

-- less than the number of bits that are shifted
abbrev pub shift_of : ShiftOp → ℕ → ℕ → ℤ → Result Instr AsmFaultKind
shift_of op d s z = ranged (pos 0) (pos (2 ^ amount_bits op - 1)) z >>= λ n. Ok (instr.Shift op d s (amount_of n))

-- ---- the instructions of a mnemonic

-- lui of a high part, less whole multiples of 2 ^ 20
abbrev pub lui_high : ℕ → ℤ → Instr
lui_high d z = instr.Upper Lui d (upper_immediate (int_rem_euclid (high_part z) (pos 1048576)))

-- lui of a high part, and addiw of the low part unless that is 0
abbrev pub load_parts : ℕ → ℤ → List Instr
load_parts d z =
    if int_eq (low_part z) (pos 0) then lui_high d z ∷ []
    else lui_high d z ∷ instr.Imm Addiw d d (low_part z) ∷ []

-- `li d, z`
abbrev pub load_immediate : ℕ → ℤ → List Instr
load_immediate d z =
    if is_between (negsuc 2047) (pos 2047) z then instr.Imm Addi d 0 z ∷ [] else load_parts d z

-- a number of 32 bits with a sign
abbrev pub imm_32 : ℤ → Result ℤ AsmFaultKind
imm_32 z = ranged (negsuc 2147483647) (pos 2147483647) z

-- the same, of a number that has to fit
abbrev pub load_number : ℕ → ℤ → Result (List Instr) AsmFaultKind
load_number d z = imm_32 z >>= λ n. Ok (load_immediate d n)

-- `la d, label`
abbrev pub load_address : ℕ → ℤ → List Instr
load_address d z = lui_high d z ∷ instr.Imm Addi d d (low_part z) ∷ []

abbrev pub one : Instr → List Instr
one i = i ∷ []

abbrev pub single : Result Instr AsmFaultKind → Result (List Instr) AsmFaultKind
single r = r >>= λ i. Ok (one i)

-- jal, a branch and la: of a target, at an address
abbrev pub jal_to : List (List ℕ × ℕ) → ℕ → Slot → Filled → Result (List Instr) AsmFaultKind
jal_to labels at d o = goal_offset labels at o.target >>= λ n. single (jal_of (register_at d o) n)

abbrev pub branch_to : List (List ℕ × ℕ) → ℕ → BranchOp → Slot → Slot → Filled → Result (List Instr) AsmFaultKind
branch_to labels at op s t o =
    goal_offset labels at o.target >>= λ n. single (branch_of op (register_at s o) (register_at t o) n)

abbrev pub load_target : List (List ℕ × ℕ) → Slot → Filled → Result (List Instr) AsmFaultKind
load_target labels d o = goal_offset labels 0 o.target >>= λ a. Ok (load_address (register_at d o) a)

-- the instructions of a template and its operands, at an address
unfoldable pub instrs_of : List (List ℕ × ℕ) → ℕ → Template → Filled → Result (List Instr) AsmFaultKind
instrs_of labels at (template.Upper op d) o = single (upper_of op (register_at d o) o.target.number)
instrs_of labels at (template.Jal d) o = jal_to labels at d o
instrs_of labels at (template.Jalr d s n) o = single (jalr_of (register_at d o) (register_at s o) (number_given n o))
instrs_of labels at (template.Branch op s t) o = branch_to labels at op s t o
instrs_of labels at (template.Load op d s) o = single (load_of op (register_at d o) (register_at s o) o.target.number)
instrs_of labels at (template.Store op s t) o = single (store_of op (register_at s o) (register_at t o) o.target.number)
instrs_of labels at (template.Imm op d s n) o = single (imm_of op (register_at d o) (register_at s o) (number_given n o))
instrs_of labels at (template.Shift op d s) o = single (shift_of op (register_at d o) (register_at s o) o.target.number)
instrs_of labels at (template.Arith op d s t) o =
    Ok (one (instr.Arith op (register_at d o) (register_at s o) (register_at t o)))
instrs_of labels at template.Fence o = Ok (one instr.Fence)
instrs_of labels at template.Ecall o = Ok (one instr.Ecall)
instrs_of labels at template.Ebreak o = Ok (one instr.Ebreak)
instrs_of labels at (template.LoadImmediate d) o = load_number (register_at d o) o.target.number
instrs_of labels at (template.LoadAddress d) o = load_target labels d o

-- the words of instructions
abbrev pub all_words : Result (List Instr) AsmFaultKind → Result (List ℕ) AsmFaultKind
all_words instrs = instrs >>= λ is. Ok (map written_word is)

-- the words of a template and its operands, at an address
abbrev pub words_of : List (List ℕ × ℕ) → ℕ → Template → Filled → Result (List ℕ) AsmFaultKind
words_of labels at t o = all_words (instrs_of labels at t o)

-- how many instructions: li takes one or two by its number, two where that is out of range
abbrev pub count_of : Template → Filled → ℕ
count_of (template.LoadImmediate d) o =
    if is_between (negsuc 2147483647) (pos 2147483647) o.target.number then length (load_immediate 0 o.target.number)
    else 2
count_of (template.LoadAddress d) o = 2
count_of _ o = 1

-- how many bytes
unfoldable pub use_length : Use → ℕ
use_length u = 4 * count_of u.template u.filled

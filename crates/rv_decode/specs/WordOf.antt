-- Which instruction a word stands for, and which operands fit.
use Rattle.std.specs.Prelude.{◌≡◌, ℕ, ◌-◌, ◌^◌, ◌<◌, ℤ, pos, neg_ℤ, ◌≤ℤ◌, int_rem}
use Rattle.rv_decode.specs.Fields.{opcode, rd, funct3, rs1, rs2, funct7, imm_i, imm_s, imm_b, imm_u, imm_j}
use Rattle.rv_decode.specs.declared.instruction.Instr.{Instr}
use Rattle.rv_decode.specs.declared.instruction.Instr.TheVariants.{Upper, Jal, Jalr, Branch, Load, Store, Imm, Shift}
use Rattle.rv_decode.specs.declared.instruction.Instr.TheVariants.{Arith, Fence, Ecall, Ebreak}
use Rattle.rv_decode.specs.declared.instruction.ShiftOp.{ShiftOp}
use Rattle.rv_decode.specs.Table.{upper_row, branch_row, load_row, store_row, imm_row, shift_row, arith_row, jal_row}
use Rattle.rv_decode.specs.Table.{jalr_row, fence_row, ecall_word, ebreak_word, amount_bits, shift_amount, above_amount}

-- the word has the columns of the row
abbrev pub HasFunct3 : ℕ → ℕ × ℕ → Type 0
HasFunct3 word row = (opcode word ≡ row.0) × (funct3 word ≡ row.1)

abbrev pub HasFunct7 : ℕ → ℕ × ℕ × ℕ → Type 0
HasFunct7 word row = (opcode word ≡ row.0) × (funct3 word ≡ row.1) × (funct7 word ≡ row.2)

abbrev pub HasShift : ℕ → ShiftOp → Type 0
HasShift word op =
    (opcode word ≡ (shift_row op).0) × (funct3 word ≡ (shift_row op).1) × (above_amount op word ≡ (shift_row op).2)

-- the word stands for the instruction: it has its row, and the operands are those of its fields
abbrev pub IsWordOf : ℕ → Instr → Type 0
IsWordOf word (Upper op d imm) = (opcode word ≡ upper_row op) × (d ≡ rd word) × (imm ≡ imm_u word)
IsWordOf word (Jal d off) = (opcode word ≡ jal_row) × (d ≡ rd word) × (off ≡ imm_j word)
IsWordOf word (Jalr d s off) = HasFunct3 word jalr_row × (d ≡ rd word) × (s ≡ rs1 word) × (off ≡ imm_i word)
IsWordOf word (Branch op s t off) =
    HasFunct3 word (branch_row op) × (s ≡ rs1 word) × (t ≡ rs2 word) × (off ≡ imm_b word)
IsWordOf word (Load op d s off) = HasFunct3 word (load_row op) × (d ≡ rd word) × (s ≡ rs1 word) × (off ≡ imm_i word)
IsWordOf word (Store op s t off) = HasFunct3 word (store_row op) × (s ≡ rs1 word) × (t ≡ rs2 word) × (off ≡ imm_s word)
IsWordOf word (Imm op d s imm) = HasFunct3 word (imm_row op) × (d ≡ rd word) × (s ≡ rs1 word) × (imm ≡ imm_i word)
IsWordOf word (Shift op d s amount) =
    HasShift word op × (d ≡ rd word) × (s ≡ rs1 word) × (amount ≡ shift_amount op word)
IsWordOf word (Arith op d s t) = HasFunct7 word (arith_row op) × (d ≡ rd word) × (s ≡ rs1 word) × (t ≡ rs2 word)
IsWordOf word Fence = HasFunct3 word fence_row
IsWordOf word Ecall = word ≡ ecall_word
IsWordOf word Ebreak = word ≡ ebreak_word

-- a signed number of so many bits
abbrev pub IsSigned : ℕ → ℤ → Type 0
IsSigned count z = (neg_ℤ (pos (2 ^ (count - 1))) ≤ℤ z) × (z ≤ℤ pos (2 ^ (count - 1) - 1))

-- the immediate of the instruction, or its offset or amount, is one that its format can hold
abbrev pub Fits : Instr → Type 0
Fits (Upper op d imm) = int_rem imm (pos 4096) ≡ pos 0
Fits (Jal d off) = IsSigned 21 off × (int_rem off (pos 2) ≡ pos 0)
Fits (Jalr d s off) = IsSigned 12 off
Fits (Branch op s t off) = IsSigned 13 off × (int_rem off (pos 2) ≡ pos 0)
Fits (Load op d s off) = IsSigned 12 off
Fits (Store op s t off) = IsSigned 12 off
Fits (Imm op d s imm) = IsSigned 12 imm
Fits (Shift op d s amount) = amount < 2 ^ amount_bits op
Fits (Arith op d s t) = Unit {0}
Fits Fence = Unit {0}
Fits Ecall = Unit {0}
Fits Ebreak = Unit {0}

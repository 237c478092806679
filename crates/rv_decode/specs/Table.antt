-- The instruction table: which word stands for which instruction (RISC-V Unprivileged ISA 20191213, chapter 24).
use Rattle.std.specs.Prelude.{ℕ, ◌+◌, ◌*◌, ◌^◌, ℤ}
use Rattle.std.specs.Int.{w32, cast_unsigned}
use Rattle.rv_decode.specs.Fields.{bits}
use Rattle.rv_decode.specs.declared.instruction.Instr.{Instr}
use Rattle.rv_decode.specs.declared.instruction.Instr.TheVariants.{Upper, Jal, Jalr, Branch, Load, Store, Imm, Shift}
use Rattle.rv_decode.specs.declared.instruction.Instr.TheVariants.{Arith, Fence, Ecall, Ebreak}
use Rattle.rv_decode.specs.declared.instruction.UpperOp.{UpperOp}
use Rattle.rv_decode.specs.declared.instruction.UpperOp.TheVariants.{Lui, Auipc}
use Rattle.rv_decode.specs.declared.instruction.BranchOp.{BranchOp}
use Rattle.rv_decode.specs.declared.instruction.BranchOp.TheVariants.{Beq, Bne, Blt, Bge, Bltu, Bgeu}
use Rattle.rv_decode.specs.declared.instruction.LoadOp.{LoadOp}
use Rattle.rv_decode.specs.declared.instruction.LoadOp.TheVariants.{Lb, Lh, Lw, Ld, Lbu, Lhu, Lwu}
use Rattle.rv_decode.specs.declared.instruction.StoreOp.{StoreOp}
use Rattle.rv_decode.specs.declared.instruction.StoreOp.TheVariants.{Sb, Sh, Sw, Sd}
use Rattle.rv_decode.specs.declared.instruction.ImmOp.{ImmOp}
use Rattle.rv_decode.specs.declared.instruction.ImmOp.TheVariants.{Addi, Slti, Sltiu, Xori, Ori, Andi, Addiw}
use Rattle.rv_decode.specs.declared.instruction.ShiftOp.{ShiftOp}
use Rattle.rv_decode.specs.declared.instruction.ShiftOp.TheVariants.{Slli, Srli, Srai, Slliw, Srliw, Sraiw}
use Rattle.rv_decode.specs.declared.instruction.ArithOp.{ArithOp}
use Rattle.rv_decode.specs.declared.instruction.ArithOp.TheVariants.{Add, Sll, Slt, Sltu, Xor, Srl, Or, And, Sub, Sra}
use Rattle.rv_decode.specs.declared.instruction.ArithOp.TheVariants.{Mul, Mulh, Mulhsu, Mulhu, Div, Divu, Rem, Remu}
use Rattle.rv_decode.specs.declared.instruction.ArithOp.TheVariants.{Addw, Sllw, Srlw, Subw, Sraw, Mulw, Divw, Divuw}
use Rattle.rv_decode.specs.declared.instruction.ArithOp.TheVariants.{Remw, Remuw}

-- upper immediates: opcode
abbrev pub upper_row : UpperOp → ℕ
upper_row Lui = 0x37
upper_row Auipc = 0x17

-- branches: opcode, funct3
abbrev pub branch_row : BranchOp → ℕ × ℕ
branch_row Beq = (0x63, 0)
branch_row Bne = (0x63, 1)
branch_row Blt = (0x63, 4)
branch_row Bge = (0x63, 5)
branch_row Bltu = (0x63, 6)
branch_row Bgeu = (0x63, 7)

-- loads: opcode, funct3
abbrev pub load_row : LoadOp → ℕ × ℕ
load_row Lb = (0x03, 0)
load_row Lh = (0x03, 1)
load_row Lw = (0x03, 2)
load_row Ld = (0x03, 3)
load_row Lbu = (0x03, 4)
load_row Lhu = (0x03, 5)
load_row Lwu = (0x03, 6)

-- stores: opcode, funct3
abbrev pub store_row : StoreOp → ℕ × ℕ
store_row Sb = (0x23, 0)
store_row Sh = (0x23, 1)
store_row Sw = (0x23, 2)
store_row Sd = (0x23, 3)

-- a register and an immediate: opcode, funct3
abbrev pub imm_row : ImmOp → ℕ × ℕ
imm_row Addi = (0x13, 0)
imm_row Slti = (0x13, 2)
imm_row Sltiu = (0x13, 3)
imm_row Xori = (0x13, 4)
imm_row Ori = (0x13, 6)
imm_row Andi = (0x13, 7)
imm_row Addiw = (0x1b, 0)

-- shifts by an amount: opcode, funct3, the bits above the amount
abbrev pub shift_row : ShiftOp → ℕ × ℕ × ℕ
shift_row Slli = (0x13, 1, 0x00)
shift_row Srli = (0x13, 5, 0x00)
shift_row Srai = (0x13, 5, 0x10)
shift_row Slliw = (0x1b, 1, 0x00)
shift_row Srliw = (0x1b, 5, 0x00)
shift_row Sraiw = (0x1b, 5, 0x20)

-- two registers: opcode, funct3, funct7
abbrev pub arith_row : ArithOp → ℕ × ℕ × ℕ
arith_row Add = (0x33, 0, 0x00)
arith_row Sub = (0x33, 0, 0x20)
arith_row Sll = (0x33, 1, 0x00)
arith_row Slt = (0x33, 2, 0x00)
arith_row Sltu = (0x33, 3, 0x00)
arith_row Xor = (0x33, 4, 0x00)
arith_row Srl = (0x33, 5, 0x00)
arith_row Sra = (0x33, 5, 0x20)
arith_row Or = (0x33, 6, 0x00)
arith_row And = (0x33, 7, 0x00)
arith_row Addw = (0x3b, 0, 0x00)
arith_row Subw = (0x3b, 0, 0x20)
arith_row Sllw = (0x3b, 1, 0x00)
arith_row Srlw = (0x3b, 5, 0x00)
arith_row Sraw = (0x3b, 5, 0x20)
arith_row Mul = (0x33, 0, 0x01)
arith_row Mulh = (0x33, 1, 0x01)
arith_row Mulhsu = (0x33, 2, 0x01)
arith_row Mulhu = (0x33, 3, 0x01)
arith_row Div = (0x33, 4, 0x01)
arith_row Divu = (0x33, 5, 0x01)
arith_row Rem = (0x33, 6, 0x01)
arith_row Remu = (0x33, 7, 0x01)
arith_row Mulw = (0x3b, 0, 0x01)
arith_row Divw = (0x3b, 4, 0x01)
arith_row Divuw = (0x3b, 5, 0x01)
arith_row Remw = (0x3b, 6, 0x01)
arith_row Remuw = (0x3b, 7, 0x01)

-- the others: opcode, then funct3; ecall and ebreak are one word each
abbrev pub jal_row : ℕ
jal_row = 0x6f

abbrev pub jalr_row : ℕ × ℕ
jalr_row = (0x67, 0)

abbrev pub fence_row : ℕ × ℕ
fence_row = (0x0f, 0)

abbrev pub ecall_word : ℕ
ecall_word = 0x00000073

abbrev pub ebreak_word : ℕ
ebreak_word = 0x00100073

-- how many bits the amount of a shift has, from bit 20 on
abbrev pub amount_bits : ShiftOp → ℕ
amount_bits Slli = 6
amount_bits Srli = 6
amount_bits Srai = 6
amount_bits Slliw = 5
amount_bits Srliw = 5
amount_bits Sraiw = 5

abbrev pub shift_amount : ShiftOp → ℕ → ℕ
shift_amount op word = bits word (19 + amount_bits op) 20

-- the bits above it: bits 31 to 26 (funct6), or for a W shift bits 31 to 25 (funct7)
abbrev pub above_amount : ShiftOp → ℕ → ℕ
above_amount op word = bits word 31 (20 + amount_bits op)

-- bits `high` down to `low` of an immediate, in two's complement
abbrev pub imm_bits : ℤ → ℕ → ℕ → ℕ
imm_bits imm high low = bits (cast_unsigned w32 imm) high low

-- the word of a row and its operands, by the row's format (2.2 and 2.3), from bit 31 down
abbrev pub r_type : ℕ × ℕ × ℕ → ℕ → ℕ → ℕ → ℕ
r_type row d s t = row.2 * 2 ^ 25 + t * 2 ^ 20 + s * 2 ^ 15 + row.1 * 2 ^ 12 + d * 2 ^ 7 + row.0

abbrev pub i_type : ℕ × ℕ → ℕ → ℕ → ℤ → ℕ
i_type row d s imm = imm_bits imm 11 0 * 2 ^ 20 + s * 2 ^ 15 + row.1 * 2 ^ 12 + d * 2 ^ 7 + row.0

abbrev pub s_type : ℕ × ℕ → ℕ → ℕ → ℤ → ℕ
s_type row s t imm =
    imm_bits imm 11 5 * 2 ^ 25 + t * 2 ^ 20 + s * 2 ^ 15 + row.1 * 2 ^ 12 + imm_bits imm 4 0 * 2 ^ 7 + row.0

abbrev pub b_type : ℕ × ℕ → ℕ → ℕ → ℤ → ℕ
b_type row s t imm =
    imm_bits imm 12 12 * 2 ^ 31 + imm_bits imm 10 5 * 2 ^ 25 + t * 2 ^ 20 + s * 2 ^ 15 + row.1 * 2 ^ 12
    + imm_bits imm 4 1 * 2 ^ 8 + imm_bits imm 11 11 * 2 ^ 7 + row.0

abbrev pub u_type : ℕ → ℕ → ℤ → ℕ
u_type row d imm = imm_bits imm 31 12 * 2 ^ 12 + d * 2 ^ 7 + row

abbrev pub j_type : ℕ → ℕ → ℤ → ℕ
j_type row d imm =
    imm_bits imm 20 20 * 2 ^ 31 + imm_bits imm 10 1 * 2 ^ 21 + imm_bits imm 11 11 * 2 ^ 20 + imm_bits imm 19 12 * 2 ^ 12
    + d * 2 ^ 7 + row

abbrev pub shift_type : ShiftOp → ℕ → ℕ → ℕ → ℕ
shift_type op d s amount =
    (shift_row op).2 * 2 ^ (20 + amount_bits op) + amount * 2 ^ 20 + s * 2 ^ 15 + (shift_row op).1 * 2 ^ 12 + d * 2 ^ 7
    + (shift_row op).0

-- the word that is written for an instruction that fits: its only word, but for fence, whose is `fence iorw, iorw`
-- (2.7)
unfoldable pub written_word : Instr → ℕ
written_word (Upper op d imm) = u_type (upper_row op) d imm
written_word (Jal d off) = j_type jal_row d off
written_word (Jalr d s off) = i_type jalr_row d s off
written_word (Branch op s t off) = b_type (branch_row op) s t off
written_word (Load op d s off) = i_type (load_row op) d s off
written_word (Store op s t off) = s_type (store_row op) s t off
written_word (Imm op d s imm) = i_type (imm_row op) d s imm
written_word (Shift op d s amount) = shift_type op d s amount
written_word (Arith op d s t) = r_type (arith_row op) d s t
written_word Fence = 0x0ff0000f
written_word Ecall = ecall_word
written_word Ebreak = ebreak_word

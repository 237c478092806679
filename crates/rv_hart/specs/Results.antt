-- What each instruction computes, in whole numbers that are reduced at the end (RISC-V Unprivileged ISA 20191213).
-- `a` and `b` are what rs1 and rs2 read.
use Rattle.std.specs.Prelude.{ℕ, ◌+◌, ◌-◌, ◌*◌, ◌/◌, ◌%◌, ◌^◌, ◌==◌, nat_lt, if◌then◌else◌, ℤ, pos, ◌+ℤ◌, ◌-ℤ◌, ◌*ℤ◌}
use Rattle.std.specs.Prelude.{int_lt, int_div, int_rem, bit_and, bit_or, bit_xor, Bool, not}
use Rattle.rv_decode.specs.Fields.{signed}
use Rattle.rv_decode.specs.declared.instruction.UpperOp.{UpperOp}
use Rattle.rv_decode.specs.declared.instruction.UpperOp.TheVariants.{Lui, Auipc}
use Rattle.rv_decode.specs.declared.instruction.BranchOp.{BranchOp}
use Rattle.rv_decode.specs.declared.instruction.BranchOp.TheVariants.{Beq, Bne, Blt, Bge, Bltu, Bgeu}
use Rattle.rv_decode.specs.declared.instruction.LoadOp.{LoadOp}
use Rattle.rv_decode.specs.declared.instruction.LoadOp.TheVariants.{Lb, Lh, Lw, Ld, Lbu, Lhu, Lwu}
use Rattle.rv_decode.specs.declared.instruction.StoreOp.{StoreOp}
use Rattle.rv_decode.specs.declared.instruction.StoreOp.TheVariants.{Sb, Sh, Sw, Sd}
use Rattle.rv_decode.specs.declared.instruction.ImmOp.{ImmOp}
use Rattle.rv_decode.specs.declared.instruction.ImmOp.TheVariants.{Addi, Slti, Sltiu, Xori, Ori, Andi, Addiw}
use Rattle.rv_decode.specs.declared.instruction.ShiftOp.{ShiftOp}
use Rattle.rv_decode.specs.declared.instruction.ShiftOp.TheVariants.{Slli, Srli, Srai, Slliw, Srliw, Sraiw}
use Rattle.rv_decode.specs.declared.instruction.ArithOp.{ArithOp}
use Rattle.rv_decode.specs.declared.instruction.ArithOp.TheVariants.{Add, Sub, Sll, Slt, Sltu, Xor, Srl, Sra, Or, And}
use Rattle.rv_decode.specs.declared.instruction.ArithOp.TheVariants.{Addw, Subw, Sllw, Srlw, Sraw, Mul, Mulh, Mulhsu}
use Rattle.rv_decode.specs.declared.instruction.ArithOp.TheVariants.{Mulhu, Div, Divu, Rem, Remu, Mulw, Divw, Divuw}
use Rattle.rv_decode.specs.declared.instruction.ArithOp.TheVariants.{Remw, Remuw}
use Rattle.rv_memory.specs.declared.memory.Width.{Width}
use Rattle.rv_memory.specs.declared.memory.Width.TheVariants.{Byte, Half, Word, Double}
use Rattle.rv_hart.specs.Numbers.{floor, signed_64, low_32, signed_32, in_64, in_32}

abbrev pub one_if_true : Bool → ℕ
one_if_true test = if test then 1 else 0

-- two registers: 2.4 and 5.2, of M 7.1 (products) and 7.2 (quotients, rounded toward zero)
unfoldable pub arith_result : ArithOp → ℕ → ℕ → ℕ
arith_result Add a b = in_64 (pos (a + b))
arith_result Sub a b = in_64 (pos a -ℤ pos b)
arith_result Sll a b = in_64 (pos (a * 2 ^ (b % 64)))
arith_result Slt a b = one_if_true (int_lt (signed_64 a) (signed_64 b))
arith_result Sltu a b = one_if_true (nat_lt a b)
arith_result Xor a b = bit_xor a b
arith_result Srl a b = a / 2 ^ (b % 64)
arith_result Sra a b = in_64 (floor (signed_64 a) (2 ^ (b % 64)))
arith_result Or a b = bit_or a b
arith_result And a b = bit_and a b
arith_result Addw a b = in_32 (pos (low_32 a + low_32 b))
arith_result Subw a b = in_32 (pos (low_32 a) -ℤ pos (low_32 b))
arith_result Sllw a b = in_32 (pos (low_32 a * 2 ^ (b % 32)))
arith_result Srlw a b = in_32 (pos (low_32 a / 2 ^ (b % 32)))
arith_result Sraw a b = in_32 (floor (signed_32 a) (2 ^ (b % 32)))
arith_result Mul a b = in_64 (pos (a * b))
arith_result Mulh a b = in_64 (floor (signed_64 a *ℤ signed_64 b) (2 ^ 64))
arith_result Mulhsu a b = in_64 (floor (signed_64 a *ℤ pos b) (2 ^ 64))
arith_result Mulhu a b = a * b / 2 ^ 64
arith_result Div a b = if (b == 0) then 2 ^ 64 - 1 else in_64 (int_div (signed_64 a) (signed_64 b))
arith_result Divu a b = if (b == 0) then 2 ^ 64 - 1 else a / b
arith_result Rem a b = if (b == 0) then a else in_64 (int_rem (signed_64 a) (signed_64 b))
arith_result Remu a b = if (b == 0) then a else a % b
arith_result Mulw a b = in_32 (pos (low_32 a * low_32 b))
arith_result Divw a b = if (low_32 b == 0) then 2 ^ 64 - 1 else in_32 (int_div (signed_32 a) (signed_32 b))
arith_result Divuw a b = if (low_32 b == 0) then 2 ^ 64 - 1 else in_32 (pos (low_32 a / low_32 b))
arith_result Remw a b = if (low_32 b == 0) then in_32 (pos (low_32 a)) else in_32 (int_rem (signed_32 a) (signed_32 b))
arith_result Remuw a b = if (low_32 b == 0) then in_32 (pos (low_32 a)) else in_32 (pos (low_32 a % low_32 b))

-- a register and an immediate: 2.4 and 5.2
unfoldable pub imm_result : ImmOp → ℕ → ℤ → ℕ
imm_result Addi a imm = in_64 (pos a +ℤ imm)
imm_result Slti a imm = one_if_true (int_lt (signed_64 a) imm)
imm_result Sltiu a imm = one_if_true (nat_lt a (in_64 imm))
imm_result Xori a imm = bit_xor a (in_64 imm)
imm_result Ori a imm = bit_or a (in_64 imm)
imm_result Andi a imm = bit_and a (in_64 imm)
imm_result Addiw a imm = in_32 (pos (low_32 a) +ℤ imm)

-- an upper immediate, already times 4096: 2.4 and 5.2
unfoldable pub upper_result : UpperOp → ℕ → ℤ → ℕ
upper_result Lui pc imm = in_64 imm
upper_result Auipc pc imm = in_64 (pos pc +ℤ imm)

-- a shift by a number in the word: 2.4 and 5.2
unfoldable pub shift_result : ShiftOp → ℕ → ℕ → ℕ
shift_result Slli a amount = in_64 (pos (a * 2 ^ amount))
shift_result Srli a amount = a / 2 ^ amount
shift_result Srai a amount = in_64 (floor (signed_64 a) (2 ^ amount))
shift_result Slliw a amount = in_32 (pos (low_32 a * 2 ^ amount))
shift_result Srliw a amount = in_32 (pos (low_32 a / 2 ^ amount))
shift_result Sraiw a amount = in_32 (floor (signed_32 a) (2 ^ amount))

-- whether a branch is taken: 2.5
unfoldable pub is_taken : BranchOp → ℕ → ℕ → Bool
is_taken Beq a b = a == b
is_taken Bne a b = not (a == b)
is_taken Blt a b = int_lt (signed_64 a) (signed_64 b)
is_taken Bge a b = not (int_lt (signed_64 a) (signed_64 b))
is_taken Bltu a b = nat_lt a b
is_taken Bgeu a b = not (nat_lt a b)

-- how much a load reads, and what the register gets of these bytes' value: 2.6 and 5.3
abbrev pub load_width : LoadOp → Width
load_width Lb = Byte
load_width Lh = Half
load_width Lw = Word
load_width Ld = Double
load_width Lbu = Byte
load_width Lhu = Half
load_width Lwu = Word

unfoldable pub load_result : LoadOp → ℕ → ℕ
load_result Lb value = in_64 (signed 8 value)
load_result Lh value = in_64 (signed 16 value)
load_result Lw value = in_64 (signed 32 value)
load_result Ld value = value
load_result Lbu value = value
load_result Lhu value = value
load_result Lwu value = value

-- how much a store writes: 2.6 and 5.3
abbrev pub store_width : StoreOp → Width
store_width Sb = Byte
store_width Sh = Half
store_width Sw = Word
store_width Sd = Double

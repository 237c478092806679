-- The text of an instruction, as the assembler's source has it (RISC-V Unprivileged ISA 20191213, chapters 2, 5 and 7).
use Rattle.std.specs.Prelude.{ℕ, ◌/◌, ◌^◌, ℤ, List, [], ◌∷◌, ◌++◌, false, codes}
use Rattle.std.specs.Int.{w32, cast_unsigned}
use Rattle.std.specs.Fmt.{decimal, signed_decimal, digits}
use Rattle.rv_decode.specs.declared.instruction.Instr.{Instr}
use Rattle.rv_decode.specs.declared.instruction.Instr.TheVariants.{Upper, Jal, Jalr, Branch, Load, Store, Imm, Shift}
use Rattle.rv_decode.specs.declared.instruction.Instr.TheVariants.{Arith, Fence, Ecall, Ebreak}
use Rattle.rv_decode.specs.declared.instruction.UpperOp.{UpperOp}
use Rattle.rv_decode.specs.declared.instruction.UpperOp.TheVariants.{Lui, Auipc}
use Rattle.rv_decode.specs.declared.instruction.BranchOp.{BranchOp}
use Rattle.rv_decode.specs.declared.instruction.BranchOp.TheVariants.{Beq, Bne, Blt, Bge, Bltu, Bgeu}
use Rattle.rv_decode.specs.declared.instruction.LoadOp.{LoadOp}
use Rattle.rv_decode.specs.declared.instruction.LoadOp.TheVariants.{Lb, Lh, Lw, Ld, Lbu, Lhu, Lwu}
use Rattle.rv_decode.specs.declared.instruction.StoreOp.{StoreOp}
use Rattle.rv_decode.specs.declared.instruction.StoreOp.TheVariants.{Sb, Sh, Sw, Sd}
use Rattle.rv_decode.specs.declared.instruction.ImmOp.{ImmOp}
use Rattle.rv_decode.specs.declared.instruction.ImmOp.TheVariants.{Addi, Slti, Sltiu, Xori, Ori, Andi, Addiw}
use Rattle.rv_decode.specs.declared.instruction.ShiftOp.{ShiftOp}
use Rattle.rv_decode.specs.declared.instruction.ShiftOp.TheVariants.{Slli, Srli, Srai, Slliw, Srliw, Sraiw}
use Rattle.rv_decode.specs.declared.instruction.ArithOp.{ArithOp}
use Rattle.rv_decode.specs.declared.instruction.ArithOp.TheVariants.{Add, Sll, Slt, Sltu, Xor, Srl, Or, And, Sub, Sra}
use Rattle.rv_decode.specs.declared.instruction.ArithOp.TheVariants.{Mul, Mulh, Mulhsu, Mulhu, Div, Divu, Rem, Remu}
use Rattle.rv_decode.specs.declared.instruction.ArithOp.TheVariants.{Addw, Sllw, Srlw, Subw, Sraw, Mulw, Divw, Divuw}
use Rattle.rv_decode.specs.declared.instruction.ArithOp.TheVariants.{Remw, Remuw}

-- the mnemonics
abbrev pub upper_name : UpperOp → List ℕ
upper_name Lui = codes "lui"
upper_name Auipc = codes "auipc"

abbrev pub branch_name : BranchOp → List ℕ
branch_name Beq = codes "beq"
branch_name Bne = codes "bne"
branch_name Blt = codes "blt"
branch_name Bge = codes "bge"
branch_name Bltu = codes "bltu"
branch_name Bgeu = codes "bgeu"

abbrev pub load_name : LoadOp → List ℕ
load_name Lb = codes "lb"
load_name Lh = codes "lh"
load_name Lw = codes "lw"
load_name Ld = codes "ld"
load_name Lbu = codes "lbu"
load_name Lhu = codes "lhu"
load_name Lwu = codes "lwu"

abbrev pub store_name : StoreOp → List ℕ
store_name Sb = codes "sb"
store_name Sh = codes "sh"
store_name Sw = codes "sw"
store_name Sd = codes "sd"

abbrev pub imm_name : ImmOp → List ℕ
imm_name Addi = codes "addi"
imm_name Slti = codes "slti"
imm_name Sltiu = codes "sltiu"
imm_name Xori = codes "xori"
imm_name Ori = codes "ori"
imm_name Andi = codes "andi"
imm_name Addiw = codes "addiw"

abbrev pub shift_name : ShiftOp → List ℕ
shift_name Slli = codes "slli"
shift_name Srli = codes "srli"
shift_name Srai = codes "srai"
shift_name Slliw = codes "slliw"
shift_name Srliw = codes "srliw"
shift_name Sraiw = codes "sraiw"

abbrev pub arith_name : ArithOp → List ℕ
arith_name Add = codes "add"
arith_name Sub = codes "sub"
arith_name Sll = codes "sll"
arith_name Slt = codes "slt"
arith_name Sltu = codes "sltu"
arith_name Xor = codes "xor"
arith_name Srl = codes "srl"
arith_name Sra = codes "sra"
arith_name Or = codes "or"
arith_name And = codes "and"
arith_name Addw = codes "addw"
arith_name Subw = codes "subw"
arith_name Sllw = codes "sllw"
arith_name Srlw = codes "srlw"
arith_name Sraw = codes "sraw"
arith_name Mul = codes "mul"
arith_name Mulh = codes "mulh"
arith_name Mulhsu = codes "mulhsu"
arith_name Mulhu = codes "mulhu"
arith_name Div = codes "div"
arith_name Divu = codes "divu"
arith_name Rem = codes "rem"
arith_name Remu = codes "remu"
arith_name Mulw = codes "mulw"
arith_name Divw = codes "divw"
arith_name Divuw = codes "divuw"
arith_name Remw = codes "remw"
arith_name Remuw = codes "remuw"

-- a register, as `x5`
abbrev pub register_text : ℕ → List ℕ
register_text n = codes "x" ++ decimal n

-- what a load, a store or jalr adds to a register, as `-8(x2)`
abbrev pub address_text : ℤ → ℕ → List ℕ
address_text off s = signed_decimal off ++ (codes "(" ++ (register_text s ++ codes ")"))

-- the operand of lui and auipc: the immediate's upper 20 bits, as `0xa7`
abbrev pub upper_text : ℤ → List ℕ
upper_text imm = codes "0x" ++ digits 16 false (cast_unsigned w32 imm / 2 ^ 12)

-- operands with a comma and a blank between them
abbrev pub operands_text : List (List ℕ) → List ℕ
operands_text [] = []
operands_text (x ∷ []) = x
operands_text (x ∷ y ∷ ys) = x ++ (codes ", " ++ operands_text (y ∷ ys))

-- a mnemonic, a blank and the operands
abbrev pub statement_text : List ℕ → List (List ℕ) → List ℕ
statement_text name operands = name ++ (codes " " ++ operands_text operands)

abbrev pub instr_text : Instr → List ℕ
instr_text (Upper op d imm) = statement_text (upper_name op) (register_text d ∷ upper_text imm ∷ [])
instr_text (Jal d off) = statement_text (codes "jal") (register_text d ∷ signed_decimal off ∷ [])
instr_text (Jalr d s off) = statement_text (codes "jalr") (register_text d ∷ address_text off s ∷ [])
instr_text (Branch op s t off) =
    statement_text (branch_name op) (register_text s ∷ register_text t ∷ signed_decimal off ∷ [])
instr_text (Load op d s off) = statement_text (load_name op) (register_text d ∷ address_text off s ∷ [])
instr_text (Store op s t off) = statement_text (store_name op) (register_text t ∷ address_text off s ∷ [])
instr_text (Imm op d s imm) = statement_text (imm_name op) (register_text d ∷ register_text s ∷ signed_decimal imm ∷ [])
instr_text (Shift op d s amount) =
    statement_text (shift_name op) (register_text d ∷ register_text s ∷ decimal amount ∷ [])
instr_text (Arith op d s t) = statement_text (arith_name op) (register_text d ∷ register_text s ∷ register_text t ∷ [])
instr_text Fence = codes "fence"
instr_text Ecall = codes "ecall"
instr_text Ebreak = codes "ebreak"

-- The instruction of a word, as a function: the table looked up from the word's side
-- (RISC-V Unprivileged ISA 20191213, chapter 24).
use Rattle.std.specs.Prelude.{ℕ, ◌==◌, ◌&&◌, Bool, Option, List, [], ◌∷◌, ◌++◌, map, find}
use Rattle.rv_decode.specs.Fields.{opcode, rd, funct3, rs1, rs2, funct7, imm_i, imm_s, imm_b, imm_u, imm_j}
use Rattle.rv_decode.specs.Table.{upper_row, branch_row, load_row, store_row, imm_row, shift_row, arith_row, jal_row}
use Rattle.rv_decode.specs.Table.{jalr_row, fence_row, ecall_word, ebreak_word, shift_amount, above_amount}
use Rattle.rv_decode.specs.declared.instruction.Instr.{Instr}
use Rattle.rv_decode.specs.declared.instruction.Instr.TheVariants.{Upper, Jal, Jalr, Branch, Load, Store, Imm, Shift}
use Rattle.rv_decode.specs.declared.instruction.Instr.TheVariants.{Arith, Fence, Ecall, Ebreak}
use Rattle.rv_decode.specs.declared.instruction.UpperOp.{UpperOp}
use Rattle.rv_decode.specs.declared.instruction.UpperOp.TheVariants.{Lui, Auipc}
use Rattle.rv_decode.specs.declared.instruction.BranchOp.{BranchOp}
use Rattle.rv_decode.specs.declared.instruction.BranchOp.TheVariants.{Beq, Bne, Blt, Bge, Bltu, Bgeu}
use Rattle.rv_decode.specs.declared.instruction.LoadOp.{LoadOp}
use Rattle.rv_decode.specs.declared.instruction.LoadOp.TheVariants.{Lb, Lh, Lw, Ld, Lbu, Lhu, Lwu}
use Rattle.rv_decode.specs.declared.instruction.StoreOp.{StoreOp}
use Rattle.rv_decode.specs.declared.instruction.StoreOp.TheVariants.{Sb, Sh, Sw, Sd}
use Rattle.rv_decode.specs.declared.instruction.ImmOp.{ImmOp}
use Rattle.rv_decode.specs.declared.instruction.ImmOp.TheVariants.{Addi, Slti, Sltiu, Xori, Ori, Andi, Addiw}
use Rattle.rv_decode.specs.declared.instruction.ShiftOp.{ShiftOp}
use Rattle.rv_decode.specs.declared.instruction.ShiftOp.TheVariants.{Slli, Srli, Srai, Slliw, Srliw, Sraiw}
use Rattle.rv_decode.specs.declared.instruction.ArithOp.{ArithOp}
use Rattle.rv_decode.specs.declared.instruction.ArithOp.TheVariants.{Add, Sll, Slt, Sltu, Xor, Srl, Or, And, Sub, Sra}
use Rattle.rv_decode.specs.declared.instruction.ArithOp.TheVariants.{Mul, Mulh, Mulhsu, Mulhu, Div, Divu, Rem, Remu}
use Rattle.rv_decode.specs.declared.instruction.ArithOp.TheVariants.{Addw, Sllw, Srlw, Subw, Sraw, Mulw, Divw, Divuw}
use Rattle.rv_decode.specs.declared.instruction.ArithOp.TheVariants.{Remw, Remuw}

-- whether two rows are the same
abbrev pub same_pair : ℕ × ℕ → ℕ × ℕ → Bool
same_pair a b = (a.0 == b.0) && (a.1 == b.1)

abbrev pub same_triple : ℕ × ℕ × ℕ → ℕ × ℕ × ℕ → Bool
same_triple a b = (a.0 == b.0) && (a.1 == b.1) && (a.2 == b.2)

-- whether the word has the row of the instruction
abbrev pub has_funct3 : ℕ → ℕ × ℕ → Bool
has_funct3 word row = same_pair (opcode word, funct3 word) row

abbrev pub has_row : ℕ → Instr → Bool
has_row word (Upper op _ _) = opcode word == upper_row op
has_row word (Jal _ _) = opcode word == jal_row
has_row word (Jalr _ _ _) = has_funct3 word jalr_row
has_row word (Branch op _ _ _) = has_funct3 word (branch_row op)
has_row word (Load op _ _ _) = has_funct3 word (load_row op)
has_row word (Store op _ _ _) = has_funct3 word (store_row op)
has_row word (Imm op _ _ _) = has_funct3 word (imm_row op)
has_row word (Shift op _ _ _) = same_triple (opcode word, funct3 word, above_amount op word) (shift_row op)
has_row word (Arith op _ _ _) = same_triple (opcode word, funct3 word, funct7 word) (arith_row op)
has_row word Fence = has_funct3 word fence_row
has_row word Ecall = word == ecall_word
has_row word Ebreak = word == ebreak_word

-- the operations, in the table's order
abbrev pub uppers : List UpperOp
uppers = Lui ∷ Auipc ∷ []

abbrev pub branches : List BranchOp
branches = Beq ∷ Bne ∷ Blt ∷ Bge ∷ Bltu ∷ Bgeu ∷ []

abbrev pub loads : List LoadOp
loads = Lb ∷ Lh ∷ Lw ∷ Ld ∷ Lbu ∷ Lhu ∷ Lwu ∷ []

abbrev pub stores : List StoreOp
stores = Sb ∷ Sh ∷ Sw ∷ Sd ∷ []

abbrev pub imms : List ImmOp
imms = Addi ∷ Slti ∷ Sltiu ∷ Xori ∷ Ori ∷ Andi ∷ Addiw ∷ []

abbrev pub shifts : List ShiftOp
shifts = Slli ∷ Srli ∷ Srai ∷ Slliw ∷ Srliw ∷ Sraiw ∷ []

abbrev pub ariths : List ArithOp
ariths =
    Add ∷ Sub ∷ Sll ∷ Slt ∷ Sltu ∷ Xor ∷ Srl ∷ Sra ∷ Or ∷ And ∷ Addw ∷ Subw ∷ Sllw ∷ Srlw ∷ Sraw ∷ Mul ∷ Mulh ∷ Mulhsu
    ∷ Mulhu ∷ Div ∷ Divu ∷ Rem ∷ Remu ∷ Mulw ∷ Divw ∷ Divuw ∷ Remw ∷ Remuw ∷ []

-- each instruction of the table, with the operands that the word's fields spell
abbrev pub readings : ℕ → List Instr
readings word =
    map (λ op. Upper op (rd word) (imm_u word)) uppers
    ++ (Jal (rd word) (imm_j word) ∷ Jalr (rd word) (rs1 word) (imm_i word) ∷ [])
    ++ map (λ op. Branch op (rs1 word) (rs2 word) (imm_b word)) branches
    ++ map (λ op. Load op (rd word) (rs1 word) (imm_i word)) loads
    ++ map (λ op. Store op (rs1 word) (rs2 word) (imm_s word)) stores
    ++ map (λ op. Imm op (rd word) (rs1 word) (imm_i word)) imms
    ++ map (λ op. Shift op (rd word) (rs1 word) (shift_amount op word)) shifts
    ++ map (λ op. Arith op (rd word) (rs1 word) (rs2 word)) ariths
    ++ (Fence ∷ Ecall ∷ Ebreak ∷ [])

-- the one of them whose row the word has
unfoldable pub decoded : ℕ → Option Instr
decoded word = find (has_row word) (readings word)

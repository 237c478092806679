-- The mnemonics: RV64I and M (RISC-V Unprivileged ISA 20191213, chapter 24), and the pseudo-instructions (chapter 25).
use Rattle.std.specs.Prelude.{ℕ, pos, negsuc, List, [], ◌∷◌, codes}
use Rattle.rv_decode.specs.declared.instruction.UpperOp.TheVariants.{Lui, Auipc}
use Rattle.rv_decode.specs.declared.instruction.BranchOp.TheVariants.{Beq, Bne, Blt, Bge, Bltu, Bgeu}
use Rattle.rv_decode.specs.declared.instruction.LoadOp.TheVariants.{Lb, Lh, Lw, Ld, Lbu, Lhu, Lwu}
use Rattle.rv_decode.specs.declared.instruction.StoreOp.TheVariants.{Sb, Sh, Sw, Sd}
use Rattle.rv_decode.specs.declared.instruction.ImmOp.TheVariants.{Addi, Slti, Sltiu, Xori, Ori, Andi, Addiw}
use Rattle.rv_decode.specs.declared.instruction.ShiftOp.TheVariants.{Slli, Srli, Srai, Slliw, Srliw, Sraiw}
use Rattle.rv_decode.specs.declared.instruction.ArithOp.TheVariants.{Add, Sub, Sll, Slt, Sltu, Xor, Srl, Sra, Or, And}
use Rattle.rv_decode.specs.declared.instruction.ArithOp.TheVariants.{Addw, Subw, Sllw, Srlw, Sraw, Mul, Mulh, Mulhsu}
use Rattle.rv_decode.specs.declared.instruction.ArithOp.TheVariants.{Mulhu, Div, Divu, Rem, Remu, Mulw, Divw, Divuw}
use Rattle.rv_decode.specs.declared.instruction.ArithOp.TheVariants.{Remw, Remuw}
use Rattle.rv_asm_statements.specs.declared.rows.Shape.{Shape}
use Rattle.rv_asm_statements.specs.declared.rows.Shape.TheVariants.{Nothing, Orders, Reg, RegReg, RegRegReg, RegNumber}
use Rattle.rv_asm_statements.specs.declared.rows.Shape.TheVariants.{RegRegNumber, RegPlace, Target, RegTarget}
use Rattle.rv_asm_statements.specs.declared.rows.Shape.TheVariants.{RegRegTarget, RegLabel}
use Rattle.rv_asm_statements.specs.declared.rows.Slot.TheVariants.{First, Second, Third, Zero, Link}
use Rattle.rv_asm_statements.specs.declared.rows.Amount.TheVariants.{Written, Given}
use Rattle.rv_asm_statements.specs.declared.rows.Template.{Template}
use Rattle.rv_asm_statements.specs.declared.rows.Template.TheVariants as template

-- a mnemonic, the operands that it takes, and the instruction that it then is
pub record Row : Type 0 where
  pub name : List ℕ
  pub shape : Shape
  pub template : Template

abbrev pub row : List ℕ → Shape → Template → Row
row name shape template = record { name = name; shape = shape; template = template }

-- one row for each mnemonic and kind of operands
abbrev pub rows : List Row
rows =
    row (codes "lui") RegNumber (template.Upper Lui First)
    ∷ row (codes "auipc") RegNumber (template.Upper Auipc First)
    ∷ row (codes "jal") RegTarget (template.Jal First)
    ∷ row (codes "jal") Target (template.Jal Link)
    ∷ row (codes "jalr") RegPlace (template.Jalr First Second Written)
    ∷ row (codes "jalr") Reg (template.Jalr Link First (Given (pos 0)))
    ∷ row (codes "beq") RegRegTarget (template.Branch Beq First Second)
    ∷ row (codes "bne") RegRegTarget (template.Branch Bne First Second)
    ∷ row (codes "blt") RegRegTarget (template.Branch Blt First Second)
    ∷ row (codes "bge") RegRegTarget (template.Branch Bge First Second)
    ∷ row (codes "bltu") RegRegTarget (template.Branch Bltu First Second)
    ∷ row (codes "bgeu") RegRegTarget (template.Branch Bgeu First Second)
    ∷ row (codes "lb") RegPlace (template.Load Lb First Second)
    ∷ row (codes "lh") RegPlace (template.Load Lh First Second)
    ∷ row (codes "lw") RegPlace (template.Load Lw First Second)
    ∷ row (codes "ld") RegPlace (template.Load Ld First Second)
    ∷ row (codes "lbu") RegPlace (template.Load Lbu First Second)
    ∷ row (codes "lhu") RegPlace (template.Load Lhu First Second)
    ∷ row (codes "lwu") RegPlace (template.Load Lwu First Second)
    ∷ row (codes "sb") RegPlace (template.Store Sb Second First)
    ∷ row (codes "sh") RegPlace (template.Store Sh Second First)
    ∷ row (codes "sw") RegPlace (template.Store Sw Second First)
    ∷ row (codes "sd") RegPlace (template.Store Sd Second First)
    ∷ row (codes "addi") RegRegNumber (template.Imm Addi First Second Written)
    ∷ row (codes "slti") RegRegNumber (template.Imm Slti First Second Written)
    ∷ row (codes "sltiu") RegRegNumber (template.Imm Sltiu First Second Written)
    ∷ row (codes "xori") RegRegNumber (template.Imm Xori First Second Written)
    ∷ row (codes "ori") RegRegNumber (template.Imm Ori First Second Written)
    ∷ row (codes "andi") RegRegNumber (template.Imm Andi First Second Written)
    ∷ row (codes "addiw") RegRegNumber (template.Imm Addiw First Second Written)
    ∷ row (codes "slli") RegRegNumber (template.Shift Slli First Second)
    ∷ row (codes "srli") RegRegNumber (template.Shift Srli First Second)
    ∷ row (codes "srai") RegRegNumber (template.Shift Srai First Second)
    ∷ row (codes "slliw") RegRegNumber (template.Shift Slliw First Second)
    ∷ row (codes "srliw") RegRegNumber (template.Shift Srliw First Second)
    ∷ row (codes "sraiw") RegRegNumber (template.Shift Sraiw First Second)
    ∷ row (codes "add") RegRegReg (template.Arith Add First Second Third)
    ∷ row (codes "sub") RegRegReg (template.Arith Sub First Second Third)
    ∷ row (codes "sll") RegRegReg (template.Arith Sll First Second Third)
    ∷ row (codes "slt") RegRegReg (template.Arith Slt First Second Third)
    ∷ row (codes "sltu") RegRegReg (template.Arith Sltu First Second Third)
    ∷ row (codes "xor") RegRegReg (template.Arith Xor First Second Third)
    ∷ row (codes "srl") RegRegReg (template.Arith Srl First Second Third)
    ∷ row (codes "sra") RegRegReg (template.Arith Sra First Second Third)
    ∷ row (codes "or") RegRegReg (template.Arith Or First Second Third)
    ∷ row (codes "and") RegRegReg (template.Arith And First Second Third)
    ∷ row (codes "addw") RegRegReg (template.Arith Addw First Second Third)
    ∷ row (codes "subw") RegRegReg (template.Arith Subw First Second Third)
    ∷ row (codes "sllw") RegRegReg (template.Arith Sllw First Second Third)
    ∷ row (codes "srlw") RegRegReg (template.Arith Srlw First Second Third)
    ∷ row (codes "sraw") RegRegReg (template.Arith Sraw First Second Third)
    ∷ row (codes "mul") RegRegReg (template.Arith Mul First Second Third)
    ∷ row (codes "mulh") RegRegReg (template.Arith Mulh First Second Third)
    ∷ row (codes "mulhsu") RegRegReg (template.Arith Mulhsu First Second Third)
    ∷ row (codes "mulhu") RegRegReg (template.Arith Mulhu First Second Third)
    ∷ row (codes "div") RegRegReg (template.Arith Div First Second Third)
    ∷ row (codes "divu") RegRegReg (template.Arith Divu First Second Third)
    ∷ row (codes "rem") RegRegReg (template.Arith Rem First Second Third)
    ∷ row (codes "remu") RegRegReg (template.Arith Remu First Second Third)
    ∷ row (codes "mulw") RegRegReg (template.Arith Mulw First Second Third)
    ∷ row (codes "divw") RegRegReg (template.Arith Divw First Second Third)
    ∷ row (codes "divuw") RegRegReg (template.Arith Divuw First Second Third)
    ∷ row (codes "remw") RegRegReg (template.Arith Remw First Second Third)
    ∷ row (codes "remuw") RegRegReg (template.Arith Remuw First Second Third)
    ∷ row (codes "fence") Nothing (template.Fence)
    ∷ row (codes "fence") Orders (template.Fence)
    ∷ row (codes "ecall") Nothing (template.Ecall)
    ∷ row (codes "ebreak") Nothing (template.Ebreak)
    ∷ row (codes "nop") Nothing (template.Imm Addi Zero Zero (Given (pos 0)))
    ∷ row (codes "mv") RegReg (template.Imm Addi First Second (Given (pos 0)))
    ∷ row (codes "not") RegReg (template.Imm Xori First Second (Given (negsuc 0)))
    ∷ row (codes "neg") RegReg (template.Arith Sub First Zero Second)
    ∷ row (codes "negw") RegReg (template.Arith Subw First Zero Second)
    ∷ row (codes "sext.w") RegReg (template.Imm Addiw First Second (Given (pos 0)))
    ∷ row (codes "seqz") RegReg (template.Imm Sltiu First Second (Given (pos 1)))
    ∷ row (codes "snez") RegReg (template.Arith Sltu First Zero Second)
    ∷ row (codes "sltz") RegReg (template.Arith Slt First Second Zero)
    ∷ row (codes "sgtz") RegReg (template.Arith Slt First Zero Second)
    ∷ row (codes "beqz") RegTarget (template.Branch Beq First Zero)
    ∷ row (codes "bnez") RegTarget (template.Branch Bne First Zero)
    ∷ row (codes "blez") RegTarget (template.Branch Bge Zero First)
    ∷ row (codes "bgez") RegTarget (template.Branch Bge First Zero)
    ∷ row (codes "bltz") RegTarget (template.Branch Blt First Zero)
    ∷ row (codes "bgtz") RegTarget (template.Branch Blt Zero First)
    ∷ row (codes "bgt") RegRegTarget (template.Branch Blt Second First)
    ∷ row (codes "ble") RegRegTarget (template.Branch Bge Second First)
    ∷ row (codes "bgtu") RegRegTarget (template.Branch Bltu Second First)
    ∷ row (codes "bleu") RegRegTarget (template.Branch Bgeu Second First)
    ∷ row (codes "j") Target (template.Jal Zero)
    ∷ row (codes "jr") Reg (template.Jalr Zero First (Given (pos 0)))
    ∷ row (codes "ret") Nothing (template.Jalr Zero Link (Given (pos 0)))
    ∷ row (codes "li") RegNumber (template.LoadImmediate First)
    ∷ row (codes "la") RegLabel (template.LoadAddress First)
    ∷ []

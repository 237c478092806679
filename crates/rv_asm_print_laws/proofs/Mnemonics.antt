-- A mnemonic and arguments, read as a statement.
use Rattle.std.proofs.Common.{◌≡◌, ℕ, List, [], ◌∷◌, Bool, true, false, Option, Some, None, Ok, refl, sym, ap, ◌∙◌, subst, arith, tests, if◌then◌else◌, option_map, bytes_eq, codes, ◌==◌}
use Rattle.std.specs.List.{list_all}
use Rattle.rv_decode.specs.declared.instruction.UpperOp.{UpperOp}
use Rattle.rv_decode.specs.declared.instruction.UpperOp.TheVariants.{Lui, Auipc}
use Rattle.rv_decode.specs.declared.instruction.BranchOp.{BranchOp}
use Rattle.rv_decode.specs.declared.instruction.BranchOp.TheVariants.{Beq, Bne, Blt, Bge, Bltu, Bgeu}
use Rattle.rv_decode.specs.declared.instruction.LoadOp.{LoadOp}
use Rattle.rv_decode.specs.declared.instruction.LoadOp.TheVariants.{Lb, Lh, Lw, Ld, Lbu, Lhu, Lwu}
use Rattle.rv_decode.specs.declared.instruction.StoreOp.{StoreOp}
use Rattle.rv_decode.specs.declared.instruction.StoreOp.TheVariants.{Sb, Sh, Sw, Sd}
use Rattle.rv_decode.specs.declared.instruction.ImmOp.{ImmOp}
use Rattle.rv_decode.specs.declared.instruction.ImmOp.TheVariants.{Addi, Slti, Sltiu, Xori, Ori, Andi, Addiw}
use Rattle.rv_decode.specs.declared.instruction.ShiftOp.{ShiftOp}
use Rattle.rv_decode.specs.declared.instruction.ShiftOp.TheVariants.{Slli, Srli, Srai, Slliw, Srliw, Sraiw}
use Rattle.rv_decode.specs.declared.instruction.ArithOp.{ArithOp}
use Rattle.rv_decode.specs.declared.instruction.ArithOp.TheVariants.{Add, Sub, Sll, Slt, Sltu, Xor, Srl, Sra, Or, And, Addw, Subw, Sllw, Srlw, Sraw, Mul, Mulh, Mulhsu, Mulhu, Div, Divu, Rem, Remu, Mulw, Divw, Divuw, Remw, Remuw}
use Rattle.rv_decode.specs.Text.{upper_name, branch_name, load_name, store_name, imm_name, shift_name, arith_name}
use Rattle.rv_asm_tokens.specs.declared.fault.AsmFaultKind.{AsmFaultKind}
use Rattle.rv_asm_tokens.specs.declared.fault.AsmFaultKind.TheVariants as kinds
use Rattle.rv_asm_tokens.specs.Fault.{if_some, wanted}
use Rattle.rv_asm_tokens.specs.Lexeme.{Lexeme, name}
use Rattle.rv_asm_tokens.specs.Digits.{between}
use Rattle.rv_asm_tokens.specs.Scan.{is_name_byte}
use Rattle.rv_asm_statements.specs.declared.filled.Filled.{Filled}
use Rattle.rv_asm_statements.specs.declared.mnemonics.Use.{Use}
use Rattle.rv_asm_statements.specs.declared.rows.Shape.{Shape}
use Rattle.rv_asm_statements.specs.declared.rows.Shape.TheVariants.{Nothing, RegRegReg, RegNumber, RegRegNumber, RegPlace, RegTarget, RegRegTarget}
use Rattle.rv_asm_statements.specs.declared.rows.Slot.TheVariants.{First, Second, Third}
use Rattle.rv_asm_statements.specs.declared.rows.Amount.TheVariants.{Written}
use Rattle.rv_asm_statements.specs.declared.rows.Template.{Template}
use Rattle.rv_asm_statements.specs.declared.rows.Template.TheVariants as template
use Rattle.rv_asm_statements.specs.declared.statements.Statement.TheVariants.{Instruction}
use Rattle.rv_asm_statements.specs.Arguments.{Argument, arguments_of}
use Rattle.rv_asm_statements.specs.Shapes.{filled_by}
use Rattle.rv_asm_statements.specs.Rows.{Row, row, rows}
use Rattle.rv_asm_statements.specs.Walk.{first_given}
use Rattle.rv_asm_statements.specs.Mnemonics.{row_use, row_named, use_of, is_mnemonic, instruction_of}
use Rattle.rv_asm_statements.specs.Statements.{begins_with_dot, instruction_at, statement_of}
use Rattle.rv_asm_print_laws.proofs.Branches.{both, else_branch}
use Rattle.rv_asm_print_laws.proofs.Words.{is_word}

-- ---- the row of a mnemonic

abbrev pub use_with : Template → Filled → Use
use_with t f = record { template = t; filled = f }

-- the first row with a name is the one that is used, if it takes the operands
used_step : (b : Bool) (s r : Row) (others : Option Row) (uses : Option Use) (xs : List Argument) (f : Filled) → if_some (if b then Some s else None) others Some ≡ Some r → (others ≡ Some r → uses ≡ Some (use_with r.template f)) → filled_by r.shape xs ≡ Some f → if_some (if b then option_map (λ g. use_with s.template g) (filled_by s.shape xs) else None) uses Some ≡ Some (use_with r.template f)
used_step true s r others uses xs f h next fills =
    let e : r ≡ s = cc in
    let at_s : filled_by s.shape xs ≡ Some f = subst (λ (q : Row). filled_by q.shape xs ≡ Some f) e fills in
    ap (λ (o : Option Filled). if_some (option_map (λ g. use_with s.template g) o) uses Some) at_s ∙ ap (λ (q : Row). Some (use_with q.template f)) (sym e)
used_step false s r others uses xs f h next fills = next h

used : (w : List ℕ) (xs : List Argument) (rs : List Row) (r : Row) (f : Filled) → first_given (row_named w) rs ≡ Some r → filled_by r.shape xs ≡ Some f → first_given (row_use w xs) rs ≡ Some (use_with r.template f)
unfolding row_use
used w xs [] r f h fills = absurd cc
used w xs (s ∷ ss) r f h fills = used_step (bytes_eq s.name w) s r (first_given (row_named w) ss) (first_given (row_use w xs) ss) xs f h (λ g. used w xs ss r f g fills) fills

-- a row stands in the table as the first of its name, which is a word
pub record IsFirst (w : List ℕ) (shape : Shape) (t : Template) : Type 0 where
  pub is_name : is_word w ≡ true
  pub stands : first_given (row_named w) rows ≡ Some (row w shape t)

no_dot : (c : ℕ) → between 97 122 c ≡ true → (c == 46) ≡ false
no_dot c h = grind (arith, tests)

word_no_dot : (w : List ℕ) → is_word w ≡ true → begins_with_dot w ≡ false
word_no_dot [] h = absurd cc
word_no_dot (c ∷ cs) h = no_dot c (both (between 97 122 c) (list_all is_name_byte cs) h).0

wanted_some : {A : Type 0} (o : Option A) (x : A) (e : AsmFaultKind) → o ≡ Some x → wanted o e ≡ Ok x
wanted_some o x e h = rw h refl

instruction_found : (w : List ℕ) (xs : List Argument) (u : Use) → use_of w xs ≡ Some u → instruction_of w (Some xs) ≡ Ok u
unfolding instruction_of
instruction_found w xs u h = wanted_some (use_of w xs) u (if is_mnemonic w then kinds.Operand else kinds.Mnemonic) h

instruction_read : (w : List ℕ) (ts : List Lexeme) (xs : List Argument) (u : Use) → arguments_of ts ≡ Some xs → instruction_of w (Some xs) ≡ Ok u → instruction_at w ts ≡ Ok (Some (Instruction u))
instruction_read w ts xs u read found = rw (read, found) refl

statement_read : (w : List ℕ) (ts : List Lexeme) → is_word w ≡ true → statement_of (name w ∷ ts) ≡ instruction_at w ts
unfolding statement_of
statement_read w ts first = else_branch (begins_with_dot w) _ (instruction_at w ts) (word_no_dot w first)

pub stated : (w : List ℕ) (ts : List Lexeme) (xs : List Argument) (shape : Shape) (t : Template) (f : Filled) → IsFirst w shape t → arguments_of ts ≡ Some xs → filled_by shape xs ≡ Some f → statement_of (name w ∷ ts) ≡ Ok (Some (Instruction (use_with t f)))
stated w ts xs shape t f first read fills =
    statement_read w ts first.is_name ∙ instruction_read w ts xs (use_with t f) read (instruction_found w xs (use_with t f) (used w xs rows (row w shape t) f first.stands fills))

-- ---- the rows of the mnemonics that are printed

pub upper_first : (op : UpperOp) → IsFirst (upper_name op) RegNumber (template.Upper op First)
upper_first Lui = record { is_name = refl; stands = refl }
upper_first Auipc = record { is_name = refl; stands = refl }

pub jal_first : IsFirst (codes "jal") RegTarget (template.Jal First)
jal_first = record { is_name = refl; stands = refl }

pub jalr_first : IsFirst (codes "jalr") RegPlace (template.Jalr First Second Written)
jalr_first = record { is_name = refl; stands = refl }

pub branch_first : (op : BranchOp) → IsFirst (branch_name op) RegRegTarget (template.Branch op First Second)
branch_first Beq = record { is_name = refl; stands = refl }
branch_first Bne = record { is_name = refl; stands = refl }
branch_first Blt = record { is_name = refl; stands = refl }
branch_first Bge = record { is_name = refl; stands = refl }
branch_first Bltu = record { is_name = refl; stands = refl }
branch_first Bgeu = record { is_name = refl; stands = refl }

pub load_first : (op : LoadOp) → IsFirst (load_name op) RegPlace (template.Load op First Second)
load_first Lb = record { is_name = refl; stands = refl }
load_first Lh = record { is_name = refl; stands = refl }
load_first Lw = record { is_name = refl; stands = refl }
load_first Ld = record { is_name = refl; stands = refl }
load_first Lbu = record { is_name = refl; stands = refl }
load_first Lhu = record { is_name = refl; stands = refl }
load_first Lwu = record { is_name = refl; stands = refl }

pub store_first : (op : StoreOp) → IsFirst (store_name op) RegPlace (template.Store op Second First)
store_first Sb = record { is_name = refl; stands = refl }
store_first Sh = record { is_name = refl; stands = refl }
store_first Sw = record { is_name = refl; stands = refl }
store_first Sd = record { is_name = refl; stands = refl }

pub imm_first : (op : ImmOp) → IsFirst (imm_name op) RegRegNumber (template.Imm op First Second Written)
imm_first Addi = record { is_name = refl; stands = refl }
imm_first Slti = record { is_name = refl; stands = refl }
imm_first Sltiu = record { is_name = refl; stands = refl }
imm_first Xori = record { is_name = refl; stands = refl }
imm_first Ori = record { is_name = refl; stands = refl }
imm_first Andi = record { is_name = refl; stands = refl }
imm_first Addiw = record { is_name = refl; stands = refl }

pub shift_first : (op : ShiftOp) → IsFirst (shift_name op) RegRegNumber (template.Shift op First Second)
shift_first Slli = record { is_name = refl; stands = refl }
shift_first Srli = record { is_name = refl; stands = refl }
shift_first Srai = record { is_name = refl; stands = refl }
shift_first Slliw = record { is_name = refl; stands = refl }
shift_first Srliw = record { is_name = refl; stands = refl }
shift_first Sraiw = record { is_name = refl; stands = refl }

pub arith_first : (op : ArithOp) → IsFirst (arith_name op) RegRegReg (template.Arith op First Second Third)
arith_first Add = record { is_name = refl; stands = refl }
arith_first Sub = record { is_name = refl; stands = refl }
arith_first Sll = record { is_name = refl; stands = refl }
arith_first Slt = record { is_name = refl; stands = refl }
arith_first Sltu = record { is_name = refl; stands = refl }
arith_first Xor = record { is_name = refl; stands = refl }
arith_first Srl = record { is_name = refl; stands = refl }
arith_first Sra = record { is_name = refl; stands = refl }
arith_first Or = record { is_name = refl; stands = refl }
arith_first And = record { is_name = refl; stands = refl }
arith_first Addw = record { is_name = refl; stands = refl }
arith_first Subw = record { is_name = refl; stands = refl }
arith_first Sllw = record { is_name = refl; stands = refl }
arith_first Srlw = record { is_name = refl; stands = refl }
arith_first Sraw = record { is_name = refl; stands = refl }
arith_first Mul = record { is_name = refl; stands = refl }
arith_first Mulh = record { is_name = refl; stands = refl }
arith_first Mulhsu = record { is_name = refl; stands = refl }
arith_first Mulhu = record { is_name = refl; stands = refl }
arith_first Div = record { is_name = refl; stands = refl }
arith_first Divu = record { is_name = refl; stands = refl }
arith_first Rem = record { is_name = refl; stands = refl }
arith_first Remu = record { is_name = refl; stands = refl }
arith_first Mulw = record { is_name = refl; stands = refl }
arith_first Divw = record { is_name = refl; stands = refl }
arith_first Divuw = record { is_name = refl; stands = refl }
arith_first Remw = record { is_name = refl; stands = refl }
arith_first Remuw = record { is_name = refl; stands = refl }

pub fence_first : IsFirst (codes "fence") Nothing template.Fence
fence_first = record { is_name = refl; stands = refl }

pub ecall_first : IsFirst (codes "ecall") Nothing template.Ecall
ecall_first = record { is_name = refl; stands = refl }

pub ebreak_first : IsFirst (codes "ebreak") Nothing template.Ebreak
ebreak_first = record { is_name = refl; stands = refl }

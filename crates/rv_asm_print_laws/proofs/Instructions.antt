-- Each printed instruction, read.
use Rattle.std.proofs.Common.{◌≡◌, ℕ, ◌<◌, ◌-◌, ◌^◌, List, [], ◌∷◌, ◌++◌, Bool, true, false, Some, Result, Ok, ℤ, pos, negsuc, codes, refl, ap, ◌∙◌, arith, lit<}
use Rattle.std.specs.Fmt.{decimal, signed_decimal}
use Rattle.std.specs.Int.Signed.{mag}
use Rattle.std.specs.List.{list_all}
use Rattle.rv_decode.specs.declared.instruction.Instr.{Instr}
use Rattle.rv_decode.specs.declared.instruction.Instr.TheVariants as instr
use Rattle.rv_decode.specs.declared.instruction.UpperOp.{UpperOp}
use Rattle.rv_decode.specs.declared.instruction.BranchOp.{BranchOp}
use Rattle.rv_decode.specs.declared.instruction.LoadOp.{LoadOp}
use Rattle.rv_decode.specs.declared.instruction.StoreOp.{StoreOp}
use Rattle.rv_decode.specs.declared.instruction.ImmOp.{ImmOp}
use Rattle.rv_decode.specs.declared.instruction.ArithOp.{ArithOp}
use Rattle.rv_decode.specs.declared.instruction.ShiftOp.{ShiftOp}
use Rattle.rv_decode.specs.declared.instruction.ShiftOp.TheVariants.{Slli, Srli, Srai, Slliw, Srliw, Sraiw}
use Rattle.rv_decode.specs.Table.{amount_bits}
use Rattle.rv_decode.specs.WordOf.{IsSigned, Fits}
use Rattle.rv_decode.specs.Text.{register_text, address_text, upper_text, operands_text, statement_text, instr_text, upper_name, branch_name, load_name, store_name, imm_name, shift_name, arith_name}
use Rattle.rv_asm_tokens.specs.declared.fault.AsmFaultKind.{AsmFaultKind}
use Rattle.rv_asm_tokens.specs.Fault.{◌>>=◌}
use Rattle.rv_asm_tokens.specs.Lexeme.{Lexeme, name, number, opens, closes}
use Rattle.rv_asm_statements.specs.declared.filled.Filled.{Filled}
use Rattle.rv_asm_statements.specs.declared.rows.Shape.{Shape}
use Rattle.rv_asm_statements.specs.declared.rows.Shape.TheVariants.{Nothing, RegRegReg, RegNumber, RegRegNumber, RegPlace, RegTarget, RegRegTarget}
use Rattle.rv_asm_statements.specs.declared.rows.Slot.TheVariants.{First, Second, Third}
use Rattle.rv_asm_statements.specs.declared.rows.Amount.TheVariants.{Written}
use Rattle.rv_asm_statements.specs.declared.rows.Template.{Template}
use Rattle.rv_asm_statements.specs.declared.rows.Template.TheVariants as template
use Rattle.rv_asm_statements.specs.Arguments.{Argument, word, value, place}
use Rattle.rv_asm_statements.specs.Shapes.{at_number, filled, filled_by}
use Rattle.rv_asm_lines.specs.Resolved.{imm_12, ranged, even_ranged, label_offset, upper_immediate, amount_of, one, single, instrs_of, use_length}
use Rattle.rv_asm_print_laws.specs.Range.{IsInRange}
use Rattle.rv_asm_print_laws.specs.Read.{IsRead}
use Rattle.rv_asm_print_laws.proofs.Words.{word_reads}
use Rattle.rv_asm_print_laws.proofs.Numbers.{IsSmall}
use Rattle.rv_asm_print_laws.proofs.Operands.{IsOperand, is_plain, plain_word, plain_both, joined, AreOperands, register_operand, decimal_operand, signed_operand, hex_operand, address_operand, operands_plain, arguments_read, statement_reads, line_tokens}
use Rattle.rv_asm_print_laws.proofs.Mnemonics.{use_with, IsFirst, stated, upper_first, jal_first, jalr_first, branch_first, load_first, store_first, imm_first, shift_first, arith_first, fence_first, ecall_first, ebreak_first}
use Rattle.rv_asm_print_laws.proofs.Shapes.{nothing_filled, reg_number_filled, reg_target_filled, reg_reg_number_filled, reg_reg_target_filled, reg_place_filled, reg_reg_reg_filled}
use Rattle.rv_asm_print_laws.proofs.Immediates.{ranged_taken, even_taken, amount_taken, small, upper_part, upper_taken, upper_ranged, upper_below}

-- tokens that begin with no label
abbrev pub begin_statement : List Lexeme → Bool
begin_statement (name w ∷ []) = true
begin_statement (name w ∷ name v ∷ ts) = true
begin_statement _ = false

-- a line that is read as an instruction: what both passes ask of it
pub record IsLine (text : List ℕ) (i : Instr) : Type 0 where
  pub read : IsRead text i
  pub unlabeled : begin_statement read.tokens ≡ true
  pub four : use_length read.used ≡ 4
  pub plain : list_all is_plain text ≡ true

-- the instructions of a template and its operands, and how many bytes they take
pub record Makes (t : Template) (f : Filled) (i : Instr) : Type 0 where
  pub instrs : (labels : List (List ℕ × ℕ)) (at : ℕ) → instrs_of labels at t f ≡ Ok (i ∷ [])
  pub four : use_length (use_with t f) ≡ 4

begins : (w r : List ℕ) (ps : List (List Lexeme)) → begin_statement (name w ∷ joined ((name r ∷ []) ∷ ps)) ≡ true
begins w r [] = refl
begins w r (p ∷ ps) = refl

-- a mnemonic, a register and other operands
line : (i : Instr) (w : List ℕ) (d : ℕ) (xs : List (List ℕ)) (ps : List (List Lexeme)) (args : List Argument) (shape : Shape) (t : Template) (f : Filled) → d < 32 → IsFirst w shape t → AreOperands xs ps args → filled_by shape (word (register_text d) ∷ args) ≡ Some f → Makes t f i → IsLine (statement_text w (register_text d ∷ xs)) i
line i w d xs ps args shape t f low first others fills makes =
    let x = register_text d in
    let p : List Lexeme = name x ∷ [] in
    let all : AreOperands (x ∷ xs) (p ∷ ps) (word x ∷ args) = (register_operand d low, others) in
    record {
      read = record {
        tokens = name w ∷ joined (p ∷ ps);
        used = use_with t f;
        scanned = line_tokens (statement_text w (x ∷ xs)) (name w ∷ joined (p ∷ ps)) (statement_reads w x p (word x) xs ps args first.is_name all);
        stated = stated w (joined (p ∷ ps)) (word x ∷ args) shape t f first (arguments_read x p (word x) xs ps args all) fills;
        instrs = makes.instrs;
      };
      unlabeled = begins w x ps;
      four = makes.four;
      plain = plain_both w (codes " " ++ operands_text (x ∷ xs)) (plain_word w first.is_name) (operands_plain x p (word x) xs ps args all);
    }

-- a mnemonic alone
bare : (i : Instr) (w : List ℕ) (t : Template) → IsFirst w Nothing t → Makes t (filled 0 0 0 (at_number (pos 0))) i → IsLine w i
bare i w t first makes = record {
  read = record {
    tokens = name w ∷ [];
    used = use_with t (filled 0 0 0 (at_number (pos 0)));
    scanned = line_tokens w (name w ∷ []) (word_reads w first.is_name);
    stated = stated w [] [] Nothing t (filled 0 0 0 (at_number (pos 0))) first refl nothing_filled;
    instrs = makes.instrs;
  };
  unlabeled = refl;
  four = makes.four;
  plain = plain_word w first.is_name;
}

-- ---- what the templates make

taken : {A : Type 0} (r : Result A AsmFaultKind) (z : A) (f : A → Instr) → r ≡ Ok z → single (r >>= λ x. Ok (f x)) ≡ Ok (f z ∷ [])
taken {A = A} r z f h = ap (λ (q : Result A AsmFaultKind). single (q >>= λ x. Ok (f x))) h

module _ (d : ℕ) (z : ℤ) where
  makes_upper : (op : UpperOp) → mag z < 2 ^ 31 → Fits (instr.Upper op d z) → Makes (template.Upper op First) (filled d 0 0 (at_number (pos (upper_part z)))) (instr.Upper op d z)
  unfolding instrs_of use_length
  makes_upper op wide fits = record {
    instrs = λ labels at.
        taken (ranged (pos 0) (pos 1048575) (pos (upper_part z))) (pos (upper_part z)) (λ y. instr.Upper op d (upper_immediate y)) (upper_ranged z wide)
        ∙ ap (λ (y : ℤ). Ok (one (instr.Upper op d y))) (upper_taken z wide fits);
    four = refl;
  }

  makes_jal : Fits (instr.Jal d z) → Makes (template.Jal First) (filled d 0 0 (at_number z)) (instr.Jal d z)
  unfolding instrs_of use_length label_offset
  makes_jal fits = record {
    instrs = λ labels at. taken (even_ranged (negsuc 1048575) (pos 1048575) z) z (λ y. instr.Jal d y) (even_taken (negsuc 1048575) (pos 1048575) z fits.0.0 fits.0.1 fits.1);
    four = refl;
  }

module _ (a b : ℕ) (z : ℤ) where
  abbrev both_registers : Filled
  both_registers = filled a b 0 (at_number z)

  imm_taken : IsSigned 12 z → imm_12 z ≡ Ok z
  imm_taken fits = ranged_taken (negsuc 2047) (pos 2047) z fits.0 fits.1

  makes_jalr : Fits (instr.Jalr a b z) → Makes (template.Jalr First Second Written) both_registers (instr.Jalr a b z)
  unfolding instrs_of use_length
  makes_jalr fits = record { instrs = λ labels at. taken (imm_12 z) z (λ y. instr.Jalr a b y) (imm_taken fits); four = refl }

  makes_branch : (op : BranchOp) → Fits (instr.Branch op a b z) → Makes (template.Branch op First Second) both_registers (instr.Branch op a b z)
  unfolding instrs_of use_length label_offset
  makes_branch op fits = record {
    instrs = λ labels at. taken (even_ranged (negsuc 4095) (pos 4095) z) z (λ y. instr.Branch op a b y) (even_taken (negsuc 4095) (pos 4095) z fits.0.0 fits.0.1 fits.1);
    four = refl;
  }

  makes_load : (op : LoadOp) → Fits (instr.Load op a b z) → Makes (template.Load op First Second) both_registers (instr.Load op a b z)
  unfolding instrs_of use_length
  makes_load op fits = record { instrs = λ labels at. taken (imm_12 z) z (λ y. instr.Load op a b y) (imm_taken fits); four = refl }

  makes_store : (op : StoreOp) → Fits (instr.Store op b a z) → Makes (template.Store op Second First) both_registers (instr.Store op b a z)
  unfolding instrs_of use_length
  makes_store op fits = record { instrs = λ labels at. taken (imm_12 z) z (λ y. instr.Store op b a y) (imm_taken fits); four = refl }

  makes_imm : (op : ImmOp) → Fits (instr.Imm op a b z) → Makes (template.Imm op First Second Written) both_registers (instr.Imm op a b z)
  unfolding instrs_of use_length
  makes_imm op fits = record { instrs = λ labels at. taken (imm_12 z) z (λ y. instr.Imm op a b y) (imm_taken fits); four = refl }

makes_shift : (op : ShiftOp) (a b n : ℕ) → Fits (instr.Shift op a b n) → Makes (template.Shift op First Second) (filled a b 0 (at_number (pos n))) (instr.Shift op a b n)
unfolding instrs_of use_length
makes_shift op a b n fits = record {
  instrs = λ labels at. taken (ranged (pos 0) (pos (2 ^ amount_bits op - 1)) (pos n)) (pos n) (λ y. instr.Shift op a b (amount_of y)) (amount_taken n (2 ^ amount_bits op) fits);
  four = refl;
}

makes_arith : (op : ArithOp) (a b c : ℕ) → Makes (template.Arith op First Second Third) (filled a b c (at_number (pos 0))) (instr.Arith op a b c)
unfolding instrs_of use_length
makes_arith op a b c = record { instrs = λ labels at. refl; four = refl }

makes_fence : Makes template.Fence (filled 0 0 0 (at_number (pos 0))) instr.Fence
unfolding instrs_of use_length
makes_fence = record { instrs = λ labels at. refl; four = refl }

makes_ecall : Makes template.Ecall (filled 0 0 0 (at_number (pos 0))) instr.Ecall
unfolding instrs_of use_length
makes_ecall = record { instrs = λ labels at. refl; four = refl }

makes_ebreak : Makes template.Ebreak (filled 0 0 0 (at_number (pos 0))) instr.Ebreak
unfolding instrs_of use_length
makes_ebreak = record { instrs = λ labels at. refl; four = refl }

-- ---- all instructions

small_12 : (z : ℤ) → IsSigned 12 z → IsSmall z
small_12 z fits = small 2047 2047 z fits.0 fits.1 (lit< tt) (lit< tt)

amount_small : (op : ShiftOp) (n : ℕ) → n < 2 ^ amount_bits op → n < 2 ^ 64
amount_small Slli n h = omega arith
amount_small Srli n h = omega arith
amount_small Srai n h = omega arith
amount_small Slliw n h = omega arith
amount_small Srliw n h = omega arith
amount_small Sraiw n h = omega arith

-- a register and a number beside a register
placed_line : (i : Instr) (w : List ℕ) (d s : ℕ) (z : ℤ) (t : Template) → d < 32 → s < 32 → IsSigned 12 z → IsFirst w RegPlace t → Makes t (filled d s 0 (at_number z)) i → IsLine (statement_text w (register_text d ∷ address_text z s ∷ [])) i
placed_line i w d s z t low_d low_s fits first makes =
    line i w d (address_text z s ∷ []) ((number z ∷ opens ∷ name (register_text s) ∷ closes ∷ []) ∷ []) (place z (register_text s) ∷ []) RegPlace t (filled d s 0 (at_number z))
    low_d first (address_operand z s (small_12 z fits) low_s, tt) (reg_place_filled d s low_d low_s z) makes

-- two registers and a number
numbered_line : (i : Instr) (w : List ℕ) (d s : ℕ) (x : List ℕ) (z : ℤ) (t : Template) → d < 32 → s < 32 → IsFirst w RegRegNumber t → IsOperand x (number z ∷ []) (value z) → Makes t (filled d s 0 (at_number z)) i → IsLine (statement_text w (register_text d ∷ register_text s ∷ x ∷ [])) i
numbered_line i w d s x z t low_d low_s first last makes =
    line i w d (register_text s ∷ x ∷ []) ((name (register_text s) ∷ []) ∷ (number z ∷ []) ∷ []) (word (register_text s) ∷ value z ∷ []) RegRegNumber t (filled d s 0 (at_number z))
    low_d first (register_operand s low_s, (last, tt)) (reg_reg_number_filled d s low_d low_s z) makes

-- every instruction that fits is printed as a line that is read as it
pub printed_line : (i : Instr) → IsInRange i → Fits i → IsLine (instr_text i) i
printed_line (instr.Upper op d z) typed fits =
    let n = upper_part z in
    let low : n < 2 ^ 64 = omega (arith, upper_below z typed.1.sfits) in
    line (instr.Upper op d z) (upper_name op) d (upper_text z ∷ []) ((number (pos n) ∷ []) ∷ []) (value (pos n) ∷ []) RegNumber (template.Upper op First) (filled d 0 0 (at_number (pos n)))
    typed.0 (upper_first op) (hex_operand n low, tt) (reg_number_filled d typed.0 (pos n)) (makes_upper d z op typed.1.sfits fits)
printed_line (instr.Jal d z) typed fits =
    line (instr.Jal d z) (codes "jal") d (signed_decimal z ∷ []) ((number z ∷ []) ∷ []) (value z ∷ []) RegTarget (template.Jal First) (filled d 0 0 (at_number z))
    typed jal_first (signed_operand z (small 1048575 1048575 z fits.0.0 fits.0.1 (lit< tt) (lit< tt)), tt) (reg_target_filled d typed z) (makes_jal d z fits)
printed_line (instr.Jalr d s z) typed fits =
    placed_line (instr.Jalr d s z) (codes "jalr") d s z (template.Jalr First Second Written) typed.0 typed.1 fits jalr_first (makes_jalr d s z fits)
printed_line (instr.Branch op s t z) typed fits =
    line (instr.Branch op s t z) (branch_name op) s (register_text t ∷ signed_decimal z ∷ []) ((name (register_text t) ∷ []) ∷ (number z ∷ []) ∷ []) (word (register_text t) ∷ value z ∷ []) RegRegTarget (template.Branch op First Second) (filled s t 0 (at_number z))
    typed.0 (branch_first op) (register_operand t typed.1, (signed_operand z (small 4095 4095 z fits.0.0 fits.0.1 (lit< tt) (lit< tt)), tt)) (reg_reg_target_filled s t typed.0 typed.1 z) (makes_branch s t z op fits)
printed_line (instr.Load op d s z) typed fits =
    placed_line (instr.Load op d s z) (load_name op) d s z (template.Load op First Second) typed.0 typed.1 fits (load_first op) (makes_load d s z op fits)
printed_line (instr.Store op s t z) typed fits =
    placed_line (instr.Store op s t z) (store_name op) t s z (template.Store op Second First) typed.1 typed.0 fits (store_first op) (makes_store t s z op fits)
printed_line (instr.Imm op d s z) typed fits =
    numbered_line (instr.Imm op d s z) (imm_name op) d s (signed_decimal z) z (template.Imm op First Second Written) typed.0 typed.1 (imm_first op) (signed_operand z (small_12 z fits)) (makes_imm d s z op fits)
printed_line (instr.Shift op d s n) typed fits =
    numbered_line (instr.Shift op d s n) (shift_name op) d s (decimal n) (pos n) (template.Shift op First Second) typed.0 typed.1 (shift_first op) (decimal_operand n (amount_small op n fits)) (makes_shift op d s n fits)
printed_line (instr.Arith op d s t) typed fits =
    line (instr.Arith op d s t) (arith_name op) d (register_text s ∷ register_text t ∷ []) ((name (register_text s) ∷ []) ∷ (name (register_text t) ∷ []) ∷ []) (word (register_text s) ∷ word (register_text t) ∷ []) RegRegReg (template.Arith op First Second Third) (filled d s t (at_number (pos 0)))
    typed.0 (arith_first op) (register_operand s typed.1, (register_operand t typed.2, tt)) (reg_reg_reg_filled d s typed.0 typed.1 t typed.2) (makes_arith op d s t)
printed_line instr.Fence typed fits = bare instr.Fence (codes "fence") template.Fence fence_first makes_fence
printed_line instr.Ecall typed fits = bare instr.Ecall (codes "ecall") template.Ecall ecall_first makes_ecall
printed_line instr.Ebreak typed fits = bare instr.Ebreak (codes "ebreak") template.Ebreak ebreak_first makes_ebreak

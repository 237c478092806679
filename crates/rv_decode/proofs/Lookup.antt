-- What the table's look-up comes to for each opcode.
use Rattle.std.proofs.Common.{◌≡◌, ℕ, ◌≢◌, refl, Option, Some, None, Bool, true, false, cond, eqb, arith}
use Rattle.std.proofs.lemmas.Bool.{ne_eqb, eqb-false}
use Rattle.std.specs.Prelude.{◌==◌, if◌then◌else◌, find}
use Rattle.std.specs.Option.{option_map, option_or}
use Rattle.rv_decode.specs.Fields.{bits, opcode, rd, funct3, rs1, rs2, funct7, imm_i, imm_s, imm_b, imm_u, imm_j}
use Rattle.rv_decode.specs.Table.{branch_row, load_row, store_row, imm_row, shift_row, arith_row}
use Rattle.rv_decode.specs.Decoded.{decoded, same_pair, same_triple, branches, loads, stores, imms, shifts, ariths}
use Rattle.rv_decode.specs.declared.instruction.Instr.TheVariants.{Upper, Jal, Jalr, Branch, Load, Store, Imm, Shift, Arith, Fence, Ecall, Ebreak}
use Rattle.rv_decode.specs.declared.instruction.UpperOp.TheVariants.{Lui, Auipc}

option_map-cond : {T U : Type 0} (f : T → U) (b : Bool) (x y : Option T) → option_map f (cond b x y) ≡ cond b (option_map f x) (option_map f y)
option_map-cond f true x y = refl
option_map-cond f false x y = refl

option_or-cond : {T : Type 0} (b : Bool) (x y z : Option T) → option_or (cond b x y) z ≡ cond b (option_or x z) (option_or y z)
option_or-cond true x y z = refl
option_or-cond false x y z = refl

-- a word of another opcode is neither ecall nor ebreak
not_system : (w k : ℕ) → opcode w ≡ k → eqb k 0x73 ≡ false → (eqb w 0x73 ≡ false) × (eqb w 0x00100073 ≡ false)
not_system w k h n = (ne_eqb _ _ (λ e. eqb-false k 0x73 n (omega arith)), ne_eqb _ _ (λ e. eqb-false k 0x73 n (omega arith)))

pub decoded_lui : (w : ℕ) → opcode w ≡ 0x37 → decoded w ≡ Some (Upper Lui (rd w) (imm_u w))
unfolding decoded
decoded_lui w h = rw h

pub decoded_auipc : (w : ℕ) → opcode w ≡ 0x17 → decoded w ≡ Some (Upper Auipc (rd w) (imm_u w))
unfolding decoded
decoded_auipc w h = rw h

pub decoded_jal : (w : ℕ) → opcode w ≡ 0x6f → decoded w ≡ Some (Jal (rd w) (imm_j w))
unfolding decoded
decoded_jal w h = rw h

pub decoded_jalr : (w : ℕ) → opcode w ≡ 0x67 → decoded w ≡ (if funct3 w == 0 then Some (Jalr (rd w) (rs1 w) (imm_i w)) else None)
unfolding decoded
decoded_jalr w h = let n = not_system w 0x67 h refl in rw (h, n.0, n.1)

pub decoded_branch : (w : ℕ) → opcode w ≡ 0x63 → decoded w ≡ option_map (λ op. Branch op (rs1 w) (rs2 w) (imm_b w)) (find (λ op. same_pair (0x63, funct3 w) (branch_row op)) branches)
unfolding decoded
decoded_branch w h = let n = not_system w 0x63 h refl in rw (h, n.0, n.1) (simp option_map-cond)

pub decoded_load : (w : ℕ) → opcode w ≡ 0x03 → decoded w ≡ option_map (λ op. Load op (rd w) (rs1 w) (imm_i w)) (find (λ op. same_pair (0x03, funct3 w) (load_row op)) loads)
unfolding decoded
decoded_load w h = let n = not_system w 0x03 h refl in rw (h, n.0, n.1) (simp option_map-cond)

pub decoded_store : (w : ℕ) → opcode w ≡ 0x23 → decoded w ≡ option_map (λ op. Store op (rs1 w) (rs2 w) (imm_s w)) (find (λ op. same_pair (0x23, funct3 w) (store_row op)) stores)
unfolding decoded
decoded_store w h = let n = not_system w 0x23 h refl in rw (h, n.0, n.1) (simp option_map-cond)

pub decoded_imm : (w : ℕ) → opcode w ≡ 0x13 → decoded w ≡ option_or (option_map (λ op. Imm op (rd w) (rs1 w) (imm_i w)) (find (λ op. same_pair (0x13, funct3 w) (imm_row op)) imms)) (option_map (λ op. Shift op (rd w) (rs1 w) (bits w 25 20)) (find (λ op. same_triple (0x13, funct3 w, bits w 31 26) (shift_row op)) shifts))
unfolding decoded
decoded_imm w h = let n = not_system w 0x13 h refl in rw (h, n.0, n.1) (simp (option_map-cond, option_or-cond))

pub decoded_word_imm : (w : ℕ) → opcode w ≡ 0x1b → decoded w ≡ option_or (option_map (λ op. Imm op (rd w) (rs1 w) (imm_i w)) (find (λ op. same_pair (0x1b, funct3 w) (imm_row op)) imms)) (option_map (λ op. Shift op (rd w) (rs1 w) (bits w 24 20)) (find (λ op. same_triple (0x1b, funct3 w, funct7 w) (shift_row op)) shifts))
unfolding decoded
decoded_word_imm w h = let n = not_system w 0x1b h refl in rw (h, n.0, n.1) (simp (option_map-cond, option_or-cond))

pub decoded_arith : (w : ℕ) → opcode w ≡ 0x33 → decoded w ≡ option_map (λ op. Arith op (rd w) (rs1 w) (rs2 w)) (find (λ op. same_triple (0x33, funct3 w, funct7 w) (arith_row op)) ariths)
unfolding decoded
decoded_arith w h = let n = not_system w 0x33 h refl in rw (h, n.0, n.1) (simp option_map-cond)

pub decoded_word_arith : (w : ℕ) → opcode w ≡ 0x3b → decoded w ≡ option_map (λ op. Arith op (rd w) (rs1 w) (rs2 w)) (find (λ op. same_triple (0x3b, funct3 w, funct7 w) (arith_row op)) ariths)
unfolding decoded
decoded_word_arith w h = let n = not_system w 0x3b h refl in rw (h, n.0, n.1) (simp option_map-cond)

pub decoded_fence : (w : ℕ) → opcode w ≡ 0x0f → decoded w ≡ (if funct3 w == 0 then Some Fence else None)
unfolding decoded
decoded_fence w h = let n = not_system w 0x0f h refl in rw (h, n.0, n.1)

pub decoded_system : (w : ℕ) → opcode w ≡ 0x73 → decoded w ≡ (if w == 0x73 then Some Ecall else (if w == 0x00100073 then Some Ebreak else None))
unfolding decoded
decoded_system w h = rw h

-- no row has another opcode
pub decoded_other : (w : ℕ) → opcode w ≢ 0x13 → opcode w ≢ 0x33 → opcode w ≢ 0x03 → opcode w ≢ 0x23 → opcode w ≢ 0x63 → opcode w ≢ 0x1b → opcode w ≢ 0x3b → opcode w ≢ 0x6f → opcode w ≢ 0x67 → opcode w ≢ 0x37 → opcode w ≢ 0x17 → opcode w ≢ 0x73 → opcode w ≢ 0x0f → decoded w ≡ None
unfolding decoded
decoded_other w h13 h33 h03 h23 h63 h1b h3b h6f h67 h37 h17 h73 h0f =
    simp (ne_eqb (opcode w) 0x13 h13, ne_eqb (opcode w) 0x33 h33, ne_eqb (opcode w) 0x03 h03, ne_eqb (opcode w) 0x23 h23, ne_eqb (opcode w) 0x63 h63, ne_eqb (opcode w) 0x1b h1b, ne_eqb (opcode w) 0x3b h3b, ne_eqb (opcode w) 0x6f h6f, ne_eqb (opcode w) 0x67 h67, ne_eqb (opcode w) 0x37 h37, ne_eqb (opcode w) 0x17 h17, ne_eqb (opcode w) 0x0f h0f, ne_eqb w 0x73 (λ e. h73 (omega arith)), ne_eqb w 0x00100073 (λ e. h73 (omega arith)))

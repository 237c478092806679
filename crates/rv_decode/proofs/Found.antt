-- The look-up gives an instruction exactly where the word has its row, and that instruction fits.
use Rattle.std.proofs.Common.{◌≡◌, ℕ, ◌+◌, ◌*◌, ◌^◌, ◌<◌, refl, subst, Option, Some, None, Bool, true, false, ◌&&◌, List, [], ◌∷◌, ◌++◌, map, arith}
use Rattle.std.proofs.lemmas.Bool.{cond_both, eqb-true}
use Rattle.std.proofs.lemmas.Int.{ints}
use Rattle.std.specs.Prelude.{◌↔◌, IsNone, IfSome, find}
use Rattle.rv_decode.specs.Fields.{bits, signed, rd, rs1, rs2, imm_i, imm_s, imm_b, imm_u, imm_j}
use Rattle.rv_decode.specs.Table.{shift_amount}
use Rattle.rv_decode.specs.WordOf.{IsWordOf, Fits, IsSigned}
use Rattle.rv_decode.specs.Decoded.{decoded, has_row, readings, same_pair, same_triple, uppers, branches, loads, stores, imms, shifts, ariths}
use Rattle.rv_decode.specs.declared.instruction.Instr.{Instr}
use Rattle.rv_decode.specs.declared.instruction.Instr.TheVariants.{Upper, Jal, Jalr, Branch, Load, Store, Imm, Shift, Arith, Fence, Ecall, Ebreak}
use Rattle.rv_decode.specs.declared.instruction.UpperOp.TheVariants.{Lui, Auipc}
use Rattle.rv_decode.specs.declared.instruction.BranchOp.TheVariants.{Beq}
use Rattle.rv_decode.specs.declared.instruction.LoadOp.TheVariants.{Lb}
use Rattle.rv_decode.specs.declared.instruction.StoreOp.TheVariants.{Sb}
use Rattle.rv_decode.specs.declared.instruction.ImmOp.TheVariants.{Addi, Addiw}
use Rattle.rv_decode.specs.declared.instruction.ShiftOp.TheVariants.{Slli, Slliw, Srliw, Sraiw}
use Rattle.rv_decode.specs.declared.instruction.ArithOp.TheVariants.{Add, Addw, Subw, Sllw, Srlw, Sraw, Mulw, Divw, Divuw, Remw, Remuw}
use Rattle.rv_decode.proofs.Lookup.{decoded_lui, decoded_auipc, decoded_jal, decoded_jalr, decoded_branch, decoded_load, decoded_store, decoded_imm, decoded_word_imm, decoded_arith, decoded_word_arith, decoded_fence, decoded_system}

-- each row is found from a word that has it, by the look-up of its opcode
pub found : (w : ℕ) (i : Instr) → IsWordOf w i → decoded w ≡ Some i
found w (Upper Lui d imm) h = rw (decoded_lui w h.0, h.1, h.2)
found w (Upper Auipc d imm) h = rw (decoded_auipc w h.0, h.1, h.2)
found w (Jal d off) h = rw (decoded_jal w h.0, h.1, h.2)
found w (Jalr d s off) h = rw (decoded_jalr w h.0.0, h.0.1, h.1, h.2, h.3)
found w (Branch Beq s t off) h = rw (decoded_branch w h.0.0, h.0.1, h.1, h.2, h.3)
found w (Branch _ s t off) h = rw (decoded_branch w h.0.0, h.0.1, h.1, h.2, h.3)
found w (Load Lb d s off) h = rw (decoded_load w h.0.0, h.0.1, h.1, h.2, h.3)
found w (Load _ d s off) h = rw (decoded_load w h.0.0, h.0.1, h.1, h.2, h.3)
found w (Store Sb s t off) h = rw (decoded_store w h.0.0, h.0.1, h.1, h.2, h.3)
found w (Store _ s t off) h = rw (decoded_store w h.0.0, h.0.1, h.1, h.2, h.3)
found w (Imm Addiw d s imm) h = rw (decoded_word_imm w h.0.0, h.0.1, h.1, h.2, h.3)
found w (Imm Addi d s imm) h = rw (decoded_imm w h.0.0, h.0.1, h.1, h.2, h.3)
found w (Imm _ d s imm) h = rw (decoded_imm w h.0.0, h.0.1, h.1, h.2, h.3)
found w (Shift Slliw d s amount) h = rw (decoded_word_imm w h.0.0, h.0.1, h.0.2, h.1, h.2, h.3)
found w (Shift Srliw d s amount) h = rw (decoded_word_imm w h.0.0, h.0.1, h.0.2, h.1, h.2, h.3)
found w (Shift Sraiw d s amount) h = rw (decoded_word_imm w h.0.0, h.0.1, h.0.2, h.1, h.2, h.3)
found w (Shift Slli d s amount) h = rw (decoded_imm w h.0.0, h.0.1, h.0.2, h.1, h.2, h.3)
found w (Shift _ d s amount) h = rw (decoded_imm w h.0.0, h.0.1, h.0.2, h.1, h.2, h.3)
found w (Arith Addw d s t) h = rw (decoded_word_arith w h.0.0, h.0.1, h.0.2, h.1, h.2, h.3)
found w (Arith Subw d s t) h = rw (decoded_word_arith w h.0.0, h.0.1, h.0.2, h.1, h.2, h.3)
found w (Arith Sllw d s t) h = rw (decoded_word_arith w h.0.0, h.0.1, h.0.2, h.1, h.2, h.3)
found w (Arith Srlw d s t) h = rw (decoded_word_arith w h.0.0, h.0.1, h.0.2, h.1, h.2, h.3)
found w (Arith Sraw d s t) h = rw (decoded_word_arith w h.0.0, h.0.1, h.0.2, h.1, h.2, h.3)
found w (Arith Mulw d s t) h = rw (decoded_word_arith w h.0.0, h.0.1, h.0.2, h.1, h.2, h.3)
found w (Arith Divw d s t) h = rw (decoded_word_arith w h.0.0, h.0.1, h.0.2, h.1, h.2, h.3)
found w (Arith Divuw d s t) h = rw (decoded_word_arith w h.0.0, h.0.1, h.0.2, h.1, h.2, h.3)
found w (Arith Remw d s t) h = rw (decoded_word_arith w h.0.0, h.0.1, h.0.2, h.1, h.2, h.3)
found w (Arith Remuw d s t) h = rw (decoded_word_arith w h.0.0, h.0.1, h.0.2, h.1, h.2, h.3)
found w (Arith Add d s t) h = rw (decoded_arith w h.0.0, h.0.1, h.0.2, h.1, h.2, h.3)
found w (Arith _ d s t) h = rw (decoded_arith w h.0.0, h.0.1, h.0.2, h.1, h.2, h.3)
found w Fence h = rw (decoded_fence w h.0, h.1)
found w Ecall h = rw (decoded_system w (omega (arith, h)), h)
found w Ebreak h = rw (decoded_system w (omega (arith, h)), h)

and-true : (a b : Bool) → (a && b) ≡ true → (a ≡ true) × (b ≡ true)
and-true true b e = (refl, e)
and-true false b e = cc

same_pair-true : (a b : ℕ × ℕ) → same_pair a b ≡ true → (a.0 ≡ b.0) × (a.1 ≡ b.1)
same_pair-true a b e = let both = and-true _ _ e in (eqb-true _ _ both.0, eqb-true _ _ both.1)

same_triple-true : (a b : ℕ × ℕ × ℕ) → same_triple a b ≡ true → (a.0 ≡ b.0) × (a.1 ≡ b.1) × (a.2 ≡ b.2)
same_triple-true a b e =
    let last = and-true _ _ e in
    let both = and-true _ _ last.0 in
    (eqb-true _ _ both.0, eqb-true _ _ both.1, eqb-true _ _ last.1)

-- what is found among these instructions is one of the word
record FindsOwn (w : ℕ) (is : List Instr) : Type 0 where
  own : IfSome (find (has_row w) is) (IsWordOf w)

none : (w : ℕ) → FindsOwn w []
none w = record { own = tt }

one : (w : ℕ) (i : Instr) {is : List Instr} → (has_row w i ≡ true → IsWordOf w i) → FindsOwn w is → FindsOwn w (i ∷ is)
one w i {is} h rest = record { own = cond_both (has_row w i) (Some i) (find (has_row w) is) (λ o. IfSome o (IsWordOf w)) h (λ _. rest.own) }

each : (w : ℕ) {Op : Type 0} (reading : Op → Instr) (ops : List Op) {is : List Instr} → ((op : Op) → has_row w (reading op) ≡ true → IsWordOf w (reading op)) → FindsOwn w is → FindsOwn w (map reading ops ++ is)
each w reading [] h rest = rest
each w reading (op ∷ ops) h rest = one w (reading op) (h op) (each w reading ops h rest)

row : (w : ℕ) → IfSome (decoded w) (IsWordOf w)
unfolding decoded
row w =
    let pair = same_pair-true in
    let triple = same_triple-true in
    let all : FindsOwn w (readings w) =
    each w (λ op. Upper op (rd w) (imm_u w)) uppers (λ op e. (eqb-true _ _ e, refl, refl))
    (one w (Jal (rd w) (imm_j w)) (λ e. (eqb-true _ _ e, refl, refl))
    (one w (Jalr (rd w) (rs1 w) (imm_i w)) (λ e. (pair _ _ e, refl, refl, refl))
    (each w (λ op. Branch op (rs1 w) (rs2 w) (imm_b w)) branches (λ op e. (pair _ _ e, refl, refl, refl))
    (each w (λ op. Load op (rd w) (rs1 w) (imm_i w)) loads (λ op e. (pair _ _ e, refl, refl, refl))
    (each w (λ op. Store op (rs1 w) (rs2 w) (imm_s w)) stores (λ op e. (pair _ _ e, refl, refl, refl))
    (each w (λ op. Imm op (rd w) (rs1 w) (imm_i w)) imms (λ op e. (pair _ _ e, refl, refl, refl))
    (each w (λ op. Shift op (rd w) (rs1 w) (shift_amount op w)) shifts (λ op e. (triple _ _ e, refl, refl, refl))
    (each w (λ op. Arith op (rd w) (rs1 w) (rs2 w)) ariths (λ op e. (triple _ _ e, refl, refl, refl))
    (one w Fence (pair _ _) (one w Ecall (eqb-true _ _) (one w Ebreak (eqb-true _ _) (none w)))))))))))) in
    all.own

-- the clauses of `decode`
pub found_exactly : (w : ℕ) (i : Instr) → (decoded w ≡ Some i) ↔ IsWordOf w i
found_exactly w i = (λ e. let P : Option Instr → Type 0 = λ o. IfSome o (IsWordOf w) in subst P e (row w), found w i)

none_when : (w : ℕ) (r : Option Instr) → ((i : Instr) → (r ≡ Some i) ↔ IsWordOf w i) → IsNone r ↔ ((i : Instr) → ¬ (IsWordOf w i))
none_when w None h = (λ _ i k. let e : ◌≡◌ {A = Option Instr} None (Some i) = (h i).1 k in cc, λ _. refl)
none_when w (Some j) h = (λ n. cc, λ k. absurd (k j ((h j).0 refl)))

pub none_exactly : (w : ℕ) → IsNone (decoded w) ↔ ((i : Instr) → ¬ (IsWordOf w i))
none_exactly w = none_when w (decoded w) (found_exactly w)

signed_12 : (n : ℕ) → n < 2 ^ 12 → IsSigned 12 (signed 12 n)
signed_12 n b = (omega (arith, ints), omega (arith, ints))

-- what a word stands for fits
fits_row : (w : ℕ) → w < 2 ^ 32 → (i : Instr) → IsWordOf w i → Fits i
fits_row w b (Upper op d imm) h = rw h.2 (grind (arith, ints))
fits_row w b (Jal d off) h = rw h.2 (grind (arith, ints), grind (arith, ints))
fits_row w b (Jalr d s off) h = rw h.3 (signed_12 (bits w 31 20) (omega arith))
fits_row w b (Branch op s t off) h = rw h.3 (grind (arith, ints), grind (arith, ints))
fits_row w b (Load op d s off) h = rw h.3 (signed_12 (bits w 31 20) (omega arith))
fits_row w b (Store op s t off) h = rw h.3 (signed_12 (bits w 31 25 * 2 ^ 5 + bits w 11 7) (omega arith))
fits_row w b (Imm op d s imm) h = rw h.3 (signed_12 (bits w 31 20) (omega arith))
fits_row w b (Shift Slli d s amount) h = let g = h.3 in omega arith
fits_row w b (Shift _ d s amount) h = let g = h.3 in omega arith
fits_row w b (Arith op d s t) h = tt
fits_row w b Fence h = tt
fits_row w b Ecall h = tt
fits_row w b Ebreak h = tt

pub found_fits : (w : ℕ) → w < 2 ^ 32 → IfSome (decoded w) Fits
found_fits w b = fits_when w (decoded w) b (row w)
  where
    fits_when : (w : ℕ) (r : Option Instr) → w < 2 ^ 32 → IfSome r (IsWordOf w) → IfSome r Fits
    fits_when w None b h = tt
    fits_when w (Some i) b h = fits_row w b i h

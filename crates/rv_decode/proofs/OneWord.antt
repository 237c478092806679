-- An instruction has one word, but for fence.
use Rattle.std.proofs.Common.{◌≡◌, ℕ, ◌^◌, ◌<◌, refl, sym, ◌∙◌, inl, inr, arith}
use Rattle.std.specs.Prelude.{◌⊎◌}
use Rattle.std.proofs.lemmas.Int.{ints}
use Rattle.rv_decode.specs.Fields.{bits, opcode, rd, funct3, rs1, rs2, funct7, imm_i, imm_s, imm_b, imm_u, imm_j}
use Rattle.rv_decode.specs.WordOf.{IsWordOf}
use Rattle.rv_decode.specs.declared.instruction.Instr.{Instr}
use Rattle.rv_decode.specs.declared.instruction.Instr.TheVariants.{Upper, Jal, Jalr, Branch, Load, Store, Imm, Shift, Arith, Fence, Ecall, Ebreak}
use Rattle.rv_decode.specs.declared.instruction.ShiftOp.TheVariants.{Slli, Srli, Srai}

module _ (w v : ℕ) (p : w < 2 ^ 32) (q : v < 2 ^ 32) where
  -- equal immediates have equal bits
  same_i : imm_i w ≡ imm_i v → bits w 31 20 ≡ bits v 31 20
  same_i e = omega (arith, ints)

  same_u : imm_u w ≡ imm_u v → bits w 31 12 ≡ bits v 31 12
  same_u e = omega (arith, ints)

  same_s : imm_s w ≡ imm_s v → (bits w 31 25 ≡ bits v 31 25) × (bits w 11 7 ≡ bits v 11 7)
  same_s e = (omega (arith, ints), omega (arith, ints))

  same_b : imm_b w ≡ imm_b v → (bits w 31 25 ≡ bits v 31 25) × (bits w 11 7 ≡ bits v 11 7)
  same_b e = (omega (arith, ints), omega (arith, ints))

  same_j : imm_j w ≡ imm_j v → bits w 31 12 ≡ bits v 31 12
  same_j e = omega (arith, ints)

  -- words with equal fields are equal, by the format
  join_u : opcode w ≡ opcode v → rd w ≡ rd v → bits w 31 12 ≡ bits v 31 12 → w ≡ v
  join_u a b c = omega arith

  join_i : opcode w ≡ opcode v → rd w ≡ rd v → funct3 w ≡ funct3 v → rs1 w ≡ rs1 v → bits w 31 20 ≡ bits v 31 20 → w ≡ v
  join_i a b c d e = omega arith

  join_r : opcode w ≡ opcode v → rd w ≡ rd v → funct3 w ≡ funct3 v → rs1 w ≡ rs1 v → rs2 w ≡ rs2 v → funct7 w ≡ funct7 v → w ≡ v
  join_r a b c d e f = omega arith

  join_shift : opcode w ≡ opcode v → rd w ≡ rd v → funct3 w ≡ funct3 v → rs1 w ≡ rs1 v → bits w 25 20 ≡ bits v 25 20 → bits w 31 26 ≡ bits v 31 26 → w ≡ v
  join_shift a b c d e f = omega arith

-- two words of one instruction
pub one_word : (w v : ℕ) → w < 2 ^ 32 → v < 2 ^ 32 → (i : Instr) → IsWordOf w i → IsWordOf v i → (i ≡ Fence) ⊎ (w ≡ v)
one_word w v p q (Upper op d imm) h k =
    inr (join_u w v p q (h.0 ∙ sym k.0) (sym h.1 ∙ k.1) (same_u w v p q (sym h.2 ∙ k.2)))
one_word w v p q (Jal d off) h k =
    inr (join_u w v p q (h.0 ∙ sym k.0) (sym h.1 ∙ k.1) (same_j w v p q (sym h.2 ∙ k.2)))
one_word w v p q (Jalr d s off) h k =
    inr (join_i w v p q (h.0.0 ∙ sym k.0.0) (sym h.1 ∙ k.1) (h.0.1 ∙ sym k.0.1) (sym h.2 ∙ k.2) (same_i w v p q (sym h.3 ∙ k.3)))
one_word w v p q (Branch op s t off) h k =
    let e = same_b w v p q (sym h.3 ∙ k.3) in
    inr (join_r w v p q (h.0.0 ∙ sym k.0.0) e.1 (h.0.1 ∙ sym k.0.1) (sym h.1 ∙ k.1) (sym h.2 ∙ k.2) e.0)
one_word w v p q (Load op d s off) h k =
    inr (join_i w v p q (h.0.0 ∙ sym k.0.0) (sym h.1 ∙ k.1) (h.0.1 ∙ sym k.0.1) (sym h.2 ∙ k.2) (same_i w v p q (sym h.3 ∙ k.3)))
one_word w v p q (Store op s t off) h k =
    let e = same_s w v p q (sym h.3 ∙ k.3) in
    inr (join_r w v p q (h.0.0 ∙ sym k.0.0) e.1 (h.0.1 ∙ sym k.0.1) (sym h.1 ∙ k.1) (sym h.2 ∙ k.2) e.0)
one_word w v p q (Imm op d s imm) h k =
    inr (join_i w v p q (h.0.0 ∙ sym k.0.0) (sym h.1 ∙ k.1) (h.0.1 ∙ sym k.0.1) (sym h.2 ∙ k.2) (same_i w v p q (sym h.3 ∙ k.3)))
one_word w v p q (Shift Slli d s amount) h k =
    inr (join_shift w v p q (h.0.0 ∙ sym k.0.0) (sym h.1 ∙ k.1) (h.0.1 ∙ sym k.0.1) (sym h.2 ∙ k.2) (sym h.3 ∙ k.3) (h.0.2 ∙ sym k.0.2))
one_word w v p q (Shift Srli d s amount) h k =
    inr (join_shift w v p q (h.0.0 ∙ sym k.0.0) (sym h.1 ∙ k.1) (h.0.1 ∙ sym k.0.1) (sym h.2 ∙ k.2) (sym h.3 ∙ k.3) (h.0.2 ∙ sym k.0.2))
one_word w v p q (Shift Srai d s amount) h k =
    inr (join_shift w v p q (h.0.0 ∙ sym k.0.0) (sym h.1 ∙ k.1) (h.0.1 ∙ sym k.0.1) (sym h.2 ∙ k.2) (sym h.3 ∙ k.3) (h.0.2 ∙ sym k.0.2))
one_word w v p q (Shift _ d s amount) h k =
    inr (join_r w v p q (h.0.0 ∙ sym k.0.0) (sym h.1 ∙ k.1) (h.0.1 ∙ sym k.0.1) (sym h.2 ∙ k.2) (sym h.3 ∙ k.3) (h.0.2 ∙ sym k.0.2))
one_word w v p q (Arith op d s t) h k =
    inr (join_r w v p q (h.0.0 ∙ sym k.0.0) (sym h.1 ∙ k.1) (h.0.1 ∙ sym k.0.1) (sym h.2 ∙ k.2) (sym h.3 ∙ k.3) (h.0.2 ∙ sym k.0.2))
one_word w v p q Fence h k = inl refl
one_word w v p q Ecall h k = inr (h ∙ sym k)
one_word w v p q Ebreak h k = inr (h ∙ sym k)

-- Worked values of the definitions: words that GNU as writes, and words that stand for nothing.
use Rattle.std.specs.Prelude.{◌≡◌, pos, negsuc, Some, None, codes, refl}
use Rattle.std.specs.Fmt.{digits}
use Rattle.rv_decode.specs.Fields.{bits, signed, imm_i, imm_s, imm_b, imm_u, imm_j}
use Rattle.rv_decode.specs.Table.{written_word}
use Rattle.rv_decode.specs.WordOf.{IsWordOf}
use Rattle.rv_decode.specs.Decoded.{decoded}
use Rattle.rv_decode.specs.Text.{instr_text}
use Rattle.rv_decode.specs.declared.instruction.Instr.TheVariants.{Upper, Jal, Jalr, Branch, Store, Imm, Shift, Arith}
use Rattle.rv_decode.specs.declared.instruction.Instr.TheVariants.{Fence, Ecall}
use Rattle.rv_decode.specs.declared.instruction.UpperOp.TheVariants.{Lui}
use Rattle.rv_decode.specs.declared.instruction.BranchOp.TheVariants.{Beq}
use Rattle.rv_decode.specs.declared.instruction.StoreOp.TheVariants.{Sd}
use Rattle.rv_decode.specs.declared.instruction.ImmOp.TheVariants.{Addi, Addiw}
use Rattle.rv_decode.specs.declared.instruction.ShiftOp.TheVariants.{Slliw}
use Rattle.rv_decode.specs.declared.instruction.ArithOp.TheVariants.{Sub}

-- fields
pub upper_bits : bits 0xfff00293 31 20 ≡ 0xfff
upper_bits = refl

pub signed_byte : signed 8 0xfe ≡ negsuc 1
signed_byte = refl

-- the immediates of addi x5, x0, -1; sd x5, -8(x2); beq x5, x6, 8; lui x5, 0xa7; lui x5, 0x80000; jal x0, -4
pub imm_of_addi : imm_i 0xfff00293 ≡ negsuc 0
imm_of_addi = refl

pub imm_of_sd : imm_s 0xfe513c23 ≡ negsuc 7
imm_of_sd = refl

pub imm_of_beq : imm_b 0x00628463 ≡ pos 8
imm_of_beq = refl

pub imm_of_lui : imm_u 0x000a72b7 ≡ pos 0xa7000
imm_of_lui = refl

pub imm_of_high_lui : imm_u 0x800002b7 ≡ negsuc 0x7fffffff
imm_of_high_lui = refl

pub imm_of_jal : imm_j 0xffdff06f ≡ negsuc 3
imm_of_jal = refl

-- the table
pub addi_word : IsWordOf 0xfff00293 (Imm Addi 5 0 (negsuc 0))
addi_word = ((refl, refl), refl, refl, refl)

pub slliw_word : IsWordOf 0x0012929b (Shift Slliw 5 5 1)
slliw_word = ((refl, refl, refl), refl, refl, refl)

pub jalr_word : IsWordOf 0x000080e7 (Jalr 1 1 (pos 0))
jalr_word = ((refl, refl), refl, refl, refl)

pub bare_fence_word : IsWordOf 0x0000000f Fence
bare_fence_word = (refl, refl)

pub written_fence_word : IsWordOf (written_word Fence) Fence
unfolding written_word
written_fence_word = (refl, refl)

pub written_sd : written_word (Store Sd 2 5 (negsuc 7)) ≡ 0xfe513c23
unfolding written_word
written_sd = refl

pub written_beq : written_word (Branch Beq 5 6 (pos 8)) ≡ 0x00628463
unfolding written_word
written_beq = refl

pub written_jal : written_word (Jal 0 (negsuc 3)) ≡ 0xffdff06f
unfolding written_word
written_jal = refl

-- the two words of li x5, 2147483647
pub decoded_li : (decoded 0x800002b7 ≡ Some (Upper Lui 5 (negsuc 0x7fffffff)))
    × (decoded 0xfff2829b ≡ Some (Imm Addiw 5 5 (negsuc 0)))
unfolding decoded
decoded_li = (refl, refl)

pub decoded_ecall : decoded 0x00000073 ≡ Some Ecall
unfolding decoded
decoded_ecall = refl

-- slliw with bit 25 set, a word of the CSR instructions, and a word of no opcode
pub illegal : (decoded 0x0212929b ≡ None) × (decoded 0x00001073 ≡ None) × (decoded 0xffffffff ≡ None)
unfolding decoded
illegal = (refl, refl, refl)

-- texts
pub text_of_lui : instr_text (Upper Lui 5 (pos 0xa7000)) ≡ codes "lui x5, 0xa7"
unfolding digits
text_of_lui = refl

pub text_of_high_lui : instr_text (Upper Lui 5 (negsuc 0x7fffffff)) ≡ codes "lui x5, 0x80000"
unfolding digits
text_of_high_lui = refl

pub text_of_sd : instr_text (Store Sd 2 5 (negsuc 7)) ≡ codes "sd x5, -8(x2)"
unfolding digits
text_of_sd = refl

pub text_of_beq : instr_text (Branch Beq 5 6 (pos 8)) ≡ codes "beq x5, x6, 8"
unfolding digits
text_of_beq = refl

pub text_of_sub : instr_text (Arith Sub 31 0 16) ≡ codes "sub x31, x0, x16"
unfolding digits
text_of_sub = refl

-- Worked values: what the definitions give at the edges, computed.
use Rattle.std.specs.Prelude.{◌≡◌, ◌-◌, ◌^◌, pos, negsuc, refl}
use Rattle.rv_decode.specs.declared.instruction.UpperOp.TheVariants.{Lui}
use Rattle.rv_decode.specs.declared.instruction.ImmOp.TheVariants.{Addi, Addiw}
use Rattle.rv_decode.specs.declared.instruction.ArithOp.TheVariants.{Mulhsu, Mulh, Divw, Remw, Divuw, Remuw}
use Rattle.rv_decode.specs.declared.instruction.LoadOp.TheVariants.{Lw}
use Rattle.rv_decode.specs.declared.instruction.Instr.TheVariants.{Jalr}
use Rattle.rv_memory.specs.Worked.{small}
use Rattle.rv_memory.specs.declared.fault.Cause.TheVariants.{InstructionMisaligned}
use Rattle.rv_hart.specs.Effect.{after, plain, trapped}
use Rattle.rv_hart.specs.Results.{upper_result, imm_result, arith_result, load_result}
use Rattle.rv_hart.specs.State.{fresh, write, at_pc}

-- addi x5, x0, -1
pub minus_one : imm_result Addi 0 (negsuc 0) ≡ 2 ^ 64 - 1
unfolding imm_result
minus_one = refl

-- li x5, 2147483647: lui x5, 0x80000 (whose immediate is -2^31), then addiw x5, x5, -1
pub lui_of_the_sign_bit : upper_result Lui 0 (negsuc 0x7fffffff) ≡ 0xffffffff80000000
unfolding upper_result
lui_of_the_sign_bit = refl

pub addiw_to_the_greatest_word : imm_result Addiw 0xffffffff80000000 (negsuc 0) ≡ 0x7fffffff
unfolding imm_result
addiw_to_the_greatest_word = refl

-- -1 times 2 ^ 64 - 1
pub mulhsu_of_all_ones : arith_result Mulhsu (2 ^ 64 - 1) (2 ^ 64 - 1) ≡ 2 ^ 64 - 1
unfolding arith_result
mulhsu_of_all_ones = refl

-- -2 ^ 63 times itself
pub mulh_of_the_least : arith_result Mulh (2 ^ 63) (2 ^ 63) ≡ 2 ^ 62
unfolding arith_result
mulh_of_the_least = refl

-- -2 ^ 31 by -1
pub divw_of_the_least : arith_result Divw 0x80000000 (2 ^ 64 - 1) ≡ 0xffffffff80000000
unfolding arith_result
divw_of_the_least = refl

pub remw_of_the_least : arith_result Remw 0x80000000 (2 ^ 64 - 1) ≡ 0
unfolding arith_result
remw_of_the_least = refl

-- 5 by 0
pub divuw_by_zero : arith_result Divuw 5 0 ≡ 2 ^ 64 - 1
unfolding arith_result
divuw_by_zero = refl

pub remuw_by_zero : arith_result Remuw 5 0 ≡ 5
unfolding arith_result
remuw_by_zero = refl

pub lw_extends_the_sign : load_result Lw 0x80000000 ≡ 0xffffffff80000000
unfolding load_result
lw_extends_the_sign = refl

-- jalr x1, 0(x1) at pc 4: x1 is read before it is written, and not written where the target is misaligned
pub jalr_by_its_own_link : after (Jalr 1 1 (pos 0)) (write (fresh 4) 1 8) small
    ≡ plain (at_pc (write (fresh 4) 1 8) 8) small
unfolding Rattle.rv_hart.specs.Effect.jumps
jalr_by_its_own_link = refl

pub jalr_to_a_half : after (Jalr 1 1 (pos 0)) (write (fresh 4) 1 6) small
    ≡ trapped InstructionMisaligned (write (fresh 4) 1 6) small
unfolding Rattle.rv_hart.specs.Effect.jumps
jalr_to_a_half = refl

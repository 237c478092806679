-- What an instruction left is told the same in one part and in two.
use Rattle.std.specs.Prelude.{◌≡◌, true, false, cond, Bool, codes, Some}
use Rattle.std.proofs.Common.{refl}
use Rattle.rv_decode.specs.declared.instruction.Instr.{Instr}
use Rattle.rv_decode.specs.declared.instruction.Instr.TheVariants.{Upper, Jal, Jalr, Branch, Load, Store, Imm, Shift}
use Rattle.rv_decode.specs.declared.instruction.Instr.TheVariants.{Arith, Fence, Ecall, Ebreak}
use Rattle.rv_hart.specs.Results.{is_taken}
use Rattle.rv_hart.specs.State.{State, read}
use Rattle.rv_hart.specs.declared.state.Mode.{Mode}
use Rattle.rv_hart.specs.declared.state.Mode.TheVariants.{Running, Waiting, Ended, Trapped}
use Rattle.rvmc_sights.specs.Ahead.{ahead_of, ahead_text, rest_text, taken_text}
use Rattle.rvmc_sights.specs.Instructions.{left_text, outcome_text}

taken_is : (taken : Bool) → taken_text taken ≡ cond taken (codes " taken") (codes " not taken")
taken_is true = refl
taken_is false = refl

left_is : (i : Instr) (before after : State) → ahead_text (ahead_of i before) after ≡ left_text i before after
left_is (Upper op d imm) before after = refl
left_is (Jal d off) before after = refl
left_is (Jalr d r off) before after = refl
left_is (Branch op r t off) before after = taken_is (is_taken op (read before r) (read before t))
left_is (Load op d r off) before after = refl
left_is (Store op r t off) before after = refl
left_is (Imm op d r imm) before after = refl
left_is (Shift op d r amount) before after = refl
left_is (Arith op d r t) before after = refl
left_is Fence before after = refl
left_is Ecall before after = refl
left_is Ebreak before after = refl

-- of an instruction that may have trapped
pub outcome_is : (i : Instr) (before after : State) (overflow : Bool) (mode : Mode)
    → rest_text (Some (ahead_of i before)) after overflow mode ≡ outcome_text i before after overflow mode
outcome_is i before after overflow (Trapped cause at) = refl
outcome_is i before after overflow Running = left_is i before after
outcome_is i before after overflow (Waiting wait) = left_is i before after
outcome_is i before after overflow (Ended code) = left_is i before after

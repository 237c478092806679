-- One step, as a relation.
use Rattle.std.specs.Prelude.{◌≡◌, MatchOption}
use Rattle.rv_decode.specs.WordOf.{IsWordOf}
use Rattle.rv_decode.specs.declared.instruction.Instr.{Instr}
use Rattle.rv_memory.specs.Memory.{Memory}
use Rattle.rv_memory.specs.Access.{word_at}
use Rattle.rv_memory.specs.declared.fault.Cause.TheVariants.{InstructionAccess, IllegalInstruction}
use Rattle.rv_hart.specs.State.{State}
use Rattle.rv_hart.specs.Effect.{After, trapped, after}

-- one step: the word at the pc, its instruction, and what that does
abbrev pub IsStep : State → Memory → After → Type 0
IsStep s m end =
    MatchOption (word_at m s.pc)
    (end ≡ trapped InstructionAccess s m)
    (λ word. ((i : Instr) → IsWordOf word i → end ≡ after i s m)
    × (((i : Instr) → ¬ (IsWordOf word i)) → end ≡ trapped IllegalInstruction s m))

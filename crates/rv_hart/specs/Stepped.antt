-- One step as a function: the one outcome that the step's relation allows.
use Rattle.std.specs.Prelude.{ℕ, Option, Some, None}
use Rattle.rv_decode.specs.Decoded.{decoded}
use Rattle.rv_decode.specs.declared.instruction.Instr.{Instr}
use Rattle.rv_memory.specs.Memory.{Memory}
use Rattle.rv_memory.specs.Access.{word_at}
use Rattle.rv_memory.specs.declared.fault.Cause.TheVariants.{InstructionAccess, IllegalInstruction}
use Rattle.rv_hart.specs.State.{State}
use Rattle.rv_hart.specs.Effect.{After, after, trapped}

abbrev pub after_decoded : Option Instr → State → Memory → After
after_decoded None s m = trapped IllegalInstruction s m
after_decoded (Some i) s m = after i s m

abbrev pub after_fetched : Option ℕ → State → Memory → After
after_fetched None s m = trapped InstructionAccess s m
after_fetched (Some word) s m = after_decoded (decoded word) s m

unfoldable pub stepped : State → Memory → After
stepped s m = after_fetched (word_at m s.pc) s m

-- What is fetched where the words of the text are decoded.
use Rattle.std.specs.Prelude.{ℕ, ◌≡◌, ◌^◌, ◌<◌, Some}
use Rattle.rv_decode.specs.Decoded.{decoded}
use Rattle.rv_decode.specs.declared.instruction.Instr.{Instr}
use Rattle.rv_memory.specs.Access.{word_at}
use Rattle.rv_memory.specs.Memory.{Memory}

-- there is a word at a pc, and it stands for this instruction
pub record IsFetched (m : Memory) (pc : ℕ) (i : Instr) : Type 0 where
  pub word : ℕ
  pub low : word < 2 ^ 32
  pub there : word_at m pc ≡ Some word
  pub decodes : decoded word ≡ Some i

-- The words of a text, each decoded once.
use Rattle.std.specs.Prelude.{ℕ, ◌≡◌, ◌+◌, ◌*◌, ◌^◌, ◌<◌, ◌≤◌, List, length, slice_get, Option, Some}
use Rattle.rv_decode.specs.Decoded.{decoded}
use Rattle.rv_decode.specs.declared.instruction.Instr.{Instr}
use Rattle.rv_memory.specs.Memory.{value_at}

-- what the word at an address of a text stands for: an instruction, or none
pub record IsReading (text : List ℕ) (address : ℕ) (reading : Option Instr) : Type 0 where
  pub inside : address + 4 ≤ length text
  pub low : value_at text address 4 < 2 ^ 32
  pub decodes : reading ≡ decoded (value_at text address 4)

-- each of these is what a word of the text stands for, from the first word on
abbrev pub AreReadings : List ℕ → List (Option Instr) → Type 0
AreReadings text readings =
    (k : ℕ) (reading : Option Instr) → slice_get readings k ≡ Some reading → IsReading text (4 * k) reading

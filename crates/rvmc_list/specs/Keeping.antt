-- The texts of instructions, each kept for the next time that it is done.
use Rattle.std.specs.Prelude.{ℕ, ◌≡◌, false, List, ◌++◌, codes, Option, Some, None, slice_get}
use Rattle.rv_decode.specs.Decoded.{decoded}
use Rattle.rv_decode.specs.Text.{instr_text}
use Rattle.rv_decode.specs.declared.instruction.Instr.{Instr}
use Rattle.rv_image_types.specs.declared.images.Symbol.{Symbol}
use Rattle.rv_memory.specs.declared.fault.Cause.TheVariants.{IllegalInstruction}
use Rattle.rvmc_places.specs.Causes.{trapped_text}
use Rattle.rvmc_places.specs.Places.{hex_text, named_address_text}
use Rattle.rvmc_list.specs.declared.kept.Kept.{Kept}
use Rattle.rvmc_list.specs.declared.kept.Texts.{Texts}

-- an instruction behind its address, as `go+0x4 [0x1c]: addi x5, x5, 1`
abbrev pub spot_text : List Symbol → ℕ → Instr → List ℕ
spot_text symbols at i = named_address_text symbols at ++ (codes ": " ++ instr_text i)

-- a word behind its address, where it is an instruction and where it is none
abbrev pub word_spot : List Symbol → ℕ → ℕ → Option Instr → List ℕ
word_spot symbols at word (Some i) = spot_text symbols at i
word_spot symbols at word None =
    named_address_text symbols at
    ++ (codes ": " ++ (codes ".word " ++ (hex_text word ++ (codes " " ++ trapped_text false IllegalInstruction))))

-- the instruction is that of the word, and the text is that of the address and of it
pub record IsKept (symbols : List Symbol) (kept : Kept) : Type 0 where
  pub instr_is : decoded kept.word ≡ Some kept.instr
  pub text_is : kept.text.items ≡ spot_text symbols kept.at kept.instr

-- all that are kept are such
abbrev pub AreKept : List Symbol → Texts → Type 0
AreKept symbols texts =
    (k : ℕ) (kept : Kept) → slice_get texts.kept.items k ≡ Some (Some kept) → IsKept symbols kept

-- one of them is of this address and word
pub record IsOneOf (at word : ℕ) (texts : Texts) (kept : Kept) : Type 0 where
  pub place : ℕ
  pub there : slice_get texts.kept.items place ≡ Some (Some kept)
  pub at_is : kept.at ≡ at
  pub word_is : kept.word ≡ word

abbrev pub IsFound : ℕ → ℕ → Texts → Option Kept → Type 0
IsFound at word texts None = Unit {0}
IsFound at word texts (Some kept) = IsOneOf at word texts kept

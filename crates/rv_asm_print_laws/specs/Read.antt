-- What printed instructions are to the assembler.
use Rattle.std.specs.Prelude.{◌≡◌, ℕ, ◌+◌, ◌≤◌, List, [], ◌∷◌, ◌++◌, Some, Ok}
use Rattle.std.specs.List.{flat_map}
use Rattle.std.specs.Int.{w32, to_le_bytes}
use Rattle.rv_decode.specs.declared.instruction.Instr.{Instr}
use Rattle.rv_decode.specs.Table.{written_word}
use Rattle.rv_decode.specs.Text.{instr_text}
use Rattle.rv_image_types.specs.declared.images.ImageParts.{ImageParts}
use Rattle.rv_image_types.specs.declared.images.ImageVersion.TheVariants.{Two}
use Rattle.rv_asm_tokens.specs.Lexeme.{Lexeme}
use Rattle.rv_asm_tokens.specs.Scan.{tokens_of}
use Rattle.rv_asm_statements.specs.declared.mnemonics.Use.{Use}
use Rattle.rv_asm_statements.specs.declared.statements.Statement.TheVariants.{Instruction}
use Rattle.rv_asm_statements.specs.Statements.{statement_of}
use Rattle.rv_asm_lines.specs.declared.parts.Part.TheVariants.{Text}
use Rattle.rv_asm_lines.specs.declared.parts.Place.{Place}
use Rattle.rv_asm_lines.specs.Resolved.{instrs_of}
use Rattle.rv_asm_lines.specs.Layout.{Layout, most_bytes, with_item, line_step}
use Rattle.rv_asm_lines.specs.Output.{Output, stated_step}

-- the text is one statement, and that is the instruction alone, at any address and with any labels
pub record IsRead (text : List ℕ) (i : Instr) : Type 0 where
  pub tokens : List Lexeme
  pub used : Use
  pub scanned : tokens_of text ≡ Ok tokens
  pub stated : statement_of tokens ≡ Ok (Some (Instruction used))
  pub instrs : (labels : List (List ℕ × ℕ)) (at : ℕ) → instrs_of labels at used.template used.filled ≡ Ok (i ∷ [])

-- As a line of the text part the text is the instruction, wherever it stands: the first pass places it if there is room
-- for four bytes, and the second writes the instruction's word, low byte first, at any place and with any labels.
pub record StandsAnywhere (text : List ℕ) (i : Instr) : Type 0 where
  pub read : IsRead text i
  pub placed : (n : ℕ) (s : Layout) → s.part ≡ Text → s.text + 4 ≤ most_bytes → line_step n s text
      ≡ Ok (with_item n s (Instruction read.used) s.fields s.globals)
  pub written : (s : Layout) (p : Place) (o : Output) → stated_step s p (Instruction read.used) o
      ≡ Ok (record o { text = o.text ++ to_le_bytes w32 (written_word i) })

-- a program as it is listed: each instruction a line
abbrev pub printed_lines : List Instr → List ℕ
printed_lines is = flat_map (λ i. instr_text i ++ 10 ∷ []) is

-- an image of instructions alone, in one rank of one hart with 65,536 bytes, which begins with the first
abbrev pub image_of : List Instr → ImageParts
image_of is = record {
  version = Two;
  ranks = 1;
  harts = 1;
  memory = 65536;
  entry = 0;
  text = flat_map (λ i. to_le_bytes w32 (written_word i)) is;
  init = [];
  comms = [];
  links = [];
  symbols = [];
}

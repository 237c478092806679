-- What a source means: an image, or its first fault.
use Rattle.std.specs.Prelude.{ℕ, ◌+◌, ◌*◌, List, length, Bool, ◌&&◌, Result, Ok, Err, nat_le, ◌==◌, unwrap_or}
use Rattle.std.specs.Prelude.{if◌then◌else◌}
use Rattle.rv_image_types.specs.declared.images.ImageParts.{ImageParts}
use Rattle.rv_image_types.specs.declared.images.ImageVersion.TheVariants.{Two}
use Rattle.rv_image_types.specs.declared.images.Symbol.{Symbol}
use Rattle.rv_image_types.specs.Image.{data_start}
use Rattle.rv_image_types.specs.Limits.{memory_page}
use Rattle.rv_asm_tokens.specs.declared.fault.AsmFault.{AsmFault}
use Rattle.rv_asm_tokens.specs.declared.fault.AsmFaultKind.{AsmFaultKind}
use Rattle.rv_asm_tokens.specs.declared.fault.AsmFaultKind.TheVariants as kinds
use Rattle.rv_asm_lines.specs.Fields.{ranks_of, harts_of, memory_of}
use Rattle.rv_asm_lines.specs.Globals.{symbols_of}
use Rattle.rv_asm_lines.specs.Layout.{Layout, addresses, layout_of}
use Rattle.rv_asm_lines.specs.declared.fields.Fields.{Fields}
use Rattle.rv_asm_lines.specs.Output.{Output, empty_output, items_from}

infixl 10 ◌>>=◌
abbrev pub ◌>>=◌ : {A B : Type 0} → Result A AsmFault → (A → Result B AsmFault) → Result B AsmFault
(Ok x) >>= f = f x
(Err fault) >>= f = Err fault

abbrev pub at_line_0 : AsmFaultKind → AsmFault
at_line_0 kind = record { line = 0; kind = kind }

-- what was made, with what the fields say and the symbols; harts begin at 0 where no entry is given
abbrev pub parts_of : Fields → Output → List Symbol → ImageParts
parts_of f o symbols = record {
  version = Two;
  ranks = ranks_of f;
  harts = harts_of f;
  memory = memory_of f;
  entry = unwrap_or o.entry 0;
  text = o.text;
  init = o.init;
  comms = o.comms;
  links = o.links;
  symbols = symbols;
}

-- harts, text and data fit the memory
abbrev pub fits_memory : ImageParts → Bool
fits_memory p =
    nat_le (memory_page * p.harts) p.memory
    && (nat_le (length p.text) p.memory && nat_le (data_start (length p.text) + length p.init) p.memory)

-- what is tested of the whole
unfoldable pub finished : Fields → Output → List Symbol → Result ImageParts AsmFault
finished f o symbols =
    if length o.text == 0 then Err (at_line_0 kinds.Directive)
    else (if fits_memory (parts_of f o symbols) then Ok (parts_of f o symbols) else Err (at_line_0 kinds.Limit))

-- the symbols of a source: the names of `.globl`, each once, in byte order, with the addresses of their labels
abbrev pub symbols_in : Layout → List Symbol
symbols_in s = symbols_of (addresses s.text s.labels) s.globals

-- the image of a source, or its first fault
unfoldable pub meaning : List ℕ → Result ImageParts AsmFault
meaning source = do
  s ← layout_of source
  o ← items_from s empty_output s.items
  finished s.fields o (symbols_in s)

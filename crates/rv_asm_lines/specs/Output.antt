-- The second pass: the bytes of each statement, the entry, the communicators and the links.
use Rattle.std.specs.Prelude.{ℕ, ◌%◌, List, [], ◌∷◌, ◌++◌, codes, Bool, ◌&&◌, not, Option, Some, None, Result, Ok, Err}
use Rattle.std.specs.Prelude.{nat_lt, ◌==◌, if◌then◌else◌}
use Rattle.std.specs.List.{flat_map}
use Rattle.std.specs.Int.{w32, to_le_bytes}
use Rattle.std.specs.Str.{bytes_eq}
use Rattle.rv_image_types.specs.declared.images.Link.{Link}
use Rattle.rv_asm_tokens.specs.declared.fault.AsmFault.{AsmFault}
use Rattle.rv_asm_tokens.specs.declared.fault.AsmFaultKind.{AsmFaultKind}
use Rattle.rv_asm_tokens.specs.declared.fault.AsmFaultKind.TheVariants as kinds
use Rattle.rv_asm_tokens.specs.Fault.{◌>>=◌, wanted}
use Rattle.rv_asm_statements.specs.declared.directives.Directive.{Directive}
use Rattle.rv_asm_statements.specs.declared.directives.Directive.TheVariants as directive
use Rattle.rv_asm_statements.specs.declared.mnemonics.Use.{Use}
use Rattle.rv_asm_statements.specs.declared.statements.Statement.{Statement}
use Rattle.rv_asm_statements.specs.declared.statements.Statement.TheVariants.{Label, Instruction, Directive as Directed}
use Rattle.rv_asm_lines.specs.Item.{Item}
use Rattle.rv_asm_lines.specs.declared.parts.Part.{Part}
use Rattle.rv_asm_lines.specs.declared.parts.Part.TheVariants.{Text, Data}
use Rattle.rv_asm_lines.specs.declared.parts.Place.{Place}
use Rattle.rv_asm_lines.specs.Fields.{ranks_of}
use Rattle.rv_asm_lines.specs.Parts.{address}
use Rattle.rv_asm_lines.specs.Resolved.{address_in, words_of}
use Rattle.rv_asm_lines.specs.Data.{directive_bytes, members_of, link_between}
use Rattle.rv_asm_lines.specs.Layout.{Layout, addresses, at_line}

-- what is made so far: the parts' bytes, where every hart begins, the communicators and the links
pub record Output : Type 0 where
  pub text : List ℕ
  pub init : List ℕ
  pub entry : Option ℕ
  pub comms : List (List ℕ)
  pub links : List Link

abbrev pub empty_output : Output
empty_output = record { text = []; init = []; entry = None; comms = []; links = [] }

-- words, each with its low byte first
abbrev pub word_bytes : List ℕ → List ℕ
word_bytes words = flat_map (to_le_bytes w32) words

-- an address where harts can begin: that of a word of the text
abbrev pub is_text_address : ℕ → ℕ → Bool
is_text_address end at = nat_lt at end && (at % 4 == 0)

-- every hart begins at an address
unfoldable pub with_entry_point : ℕ → ℕ → Output → Result Output AsmFaultKind
with_entry_point end at o = if is_text_address end at then Ok (record o { entry = Some at }) else Err kinds.Directive

-- the label `_start` is the entry where no `.entry` is
unfoldable pub label_step : Layout → List ℕ → Place → Output → Result Output AsmFaultKind
label_step s w p o =
    if bytes_eq w (codes "_start") && not s.fields.has_entry then with_entry_point s.text (address s.text p.part p.at) o
    else Ok o

-- the text with the instructions of a mnemonic and its operands at an address
unfoldable pub with_use : List (List ℕ × ℕ) → ℕ → Use → List ℕ → Result (List ℕ) AsmFaultKind
with_use labels at u text = words_of labels at u.template u.filled >>= λ words. Ok (text ++ word_bytes words)

-- bytes behind those of a part
abbrev pub with_part_bytes : Part → List ℕ → Output → Output
with_part_bytes Text bytes o = record o { text = o.text ++ bytes }
with_part_bytes Data bytes o = record o { init = o.init ++ bytes }

-- the entry, a symbol, whose label has to be there, a communicator, a link, or bytes
unfoldable pub directive_step : Layout → Place → Directive → Output → Result Output AsmFaultKind
directive_step s p (directive.Entry w) o =
    wanted (address_in w (addresses s.text s.labels)) kinds.LabelMissing >>= λ at. with_entry_point s.text at o
directive_step s p (directive.Global w) o =
    wanted (address_in w (addresses s.text s.labels)) kinds.LabelMissing >>= λ at. Ok o
directive_step s p (directive.Comm ranks) o =
    members_of (ranks_of s.fields) ranks >>= λ members. Ok (record o { comms = o.comms ++ members ∷ [] })
directive_step s p (directive.Link from to) o =
    link_between (ranks_of s.fields) from to >>= λ link. Ok (record o { links = o.links ++ link ∷ [] })
directive_step s p d o = directive_bytes (addresses s.text s.labels) p.at d >>= λ bytes. Ok (with_part_bytes p.part bytes o)

-- one more statement, with the layout that the first pass ended with
unfoldable pub stated_step : Layout → Place → Statement → Output → Result Output AsmFaultKind
stated_step s p (Label w) o = label_step s w p o
stated_step s p (Instruction u) o =
    with_use (addresses s.text s.labels) p.at u o.text >>= λ text. Ok (record o { text = text })
stated_step s p (Directed d) o = directive_step s p d o

abbrev pub item_step : Layout → Item → Output → Result Output AsmFaultKind
item_step s item o = stated_step s item.place item.statement o

-- the items that are left
unfoldable pub items_from : Layout → Output → List Item → Result Output AsmFault
items_from s o [] = Ok o
items_from s o (item ∷ others) = at_line item.line (item_step s item o) (λ p. items_from s p others)

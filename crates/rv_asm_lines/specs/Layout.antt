-- The first pass: where each label and statement of a source stands.
use Rattle.std.specs.Prelude.{ℕ, ◌+◌, List, [], ◌∷◌, ◌++◌, map, Option, Some, None, Result, Ok, Err, is_some, nat_lt}
use Rattle.std.specs.Prelude.{if◌then◌else◌}
use Rattle.std.specs.Str.{bytes_eq}
use Rattle.std.specs.Str.Lines.{lines}
use Rattle.rv_image_types.specs.Limits.{most_memory_bytes}
use Rattle.rv_asm_tokens.specs.declared.fault.AsmFault.{AsmFault}
use Rattle.rv_asm_tokens.specs.declared.fault.AsmFaultKind.{AsmFaultKind}
use Rattle.rv_asm_tokens.specs.declared.fault.AsmFaultKind.TheVariants as kinds
use Rattle.rv_asm_tokens.specs.Fault.{◌>>=◌}
use Rattle.rv_asm_tokens.specs.Lexeme.{Lexeme, name, colon}
use Rattle.rv_asm_tokens.specs.Scan.{tokens_of}
use Rattle.rv_asm_statements.specs.declared.statements.Statement.{Statement}
use Rattle.rv_asm_statements.specs.declared.statements.Statement.TheVariants.{Label}
use Rattle.rv_asm_statements.specs.Statements.{statement_of}
use Rattle.rv_asm_lines.specs.declared.fields.Fields.{Fields}
use Rattle.rv_asm_lines.specs.Item.{Item}
use Rattle.rv_asm_lines.specs.declared.parts.Part.{Part}
use Rattle.rv_asm_lines.specs.declared.parts.Part.TheVariants.{Text, Data}
use Rattle.rv_asm_lines.specs.declared.parts.Place.{Place}
use Rattle.rv_asm_lines.specs.Fields.{no_fields, fields_behind}
use Rattle.rv_asm_lines.specs.Globals.{globals_behind}
use Rattle.rv_asm_lines.specs.Parts.{address, length_of, may_stand, part_after}

-- labels and where they stand, in the order of the source
abbrev pub Labels : Type 0
Labels = List (List ℕ × Place)

-- the lines so far: how long the parts are, the part that follows, the fields, the names of `.globl`, the labels, and
-- what stands where
pub record Layout : Type 0 where
  pub text : ℕ
  pub init : ℕ
  pub part : Part
  pub fields : Fields
  pub globals : List (List ℕ)
  pub labels : Labels
  pub items : List Item

abbrev pub empty_layout : Layout
empty_layout = record { text = 0; init = 0; part = Text; fields = no_fields; globals = []; labels = []; items = [] }

-- where the next statement stands
abbrev pub end_of : Part → ℕ → ℕ → ℕ
end_of Text text init = text
end_of Data text init = init

abbrev pub at_end : Layout → ℕ
at_end s = end_of s.part s.text s.init

abbrev pub next_place : Layout → Place
next_place s = record { part = s.part; at = at_end s }

abbrev pub item_at : ℕ → Place → Statement → Item
item_at n place stated = record { line = n; place = place; statement = stated }

-- the labels with their addresses: those of the data part stand behind the whole text
abbrev pub addresses : ℕ → Labels → List (List ℕ × ℕ)
addresses text labels = map (λ l. (l.0, address text l.1.part l.1.at)) labels

abbrev pub place_in : List ℕ → Labels → Option Place
place_in w [] = None
place_in w (l ∷ ls) = if bytes_eq w l.0 then Some l.1 else place_in w ls

-- no part is longer
abbrev pub most_bytes : ℕ
most_bytes = most_memory_bytes

-- how many bytes are added to a part, where they stand in another or in it
abbrev pub added : Part → Part → ℕ → ℕ
added Text Text k = k
added Data Data k = k
added _ _ k = 0

-- a label of a line: it stands where the line's statement will
abbrev pub with_label : ℕ → Layout → List ℕ → Layout
with_label n s w =
    record s { labels = s.labels ++ (w, next_place s) ∷ []; items = s.items ++ item_at n (next_place s) (Label w) ∷ [] }

-- one more statement at the end of its part, and the fields and the names of `.globl` behind it
abbrev pub with_item : ℕ → Layout → Statement → Fields → List (List ℕ) → Layout
with_item n s stated f names = record {
  text = s.text + added Text s.part (length_of (at_end s) stated);
  init = s.init + added Data s.part (length_of (at_end s) stated);
  part = part_after s.part stated;
  fields = f;
  globals = names;
  labels = s.labels;
  items = s.items ++ item_at n (next_place s) stated ∷ [];
}

-- the labels that a line begins with, and what follows them
unfoldable pub labels_at : ℕ → Layout → List Lexeme → Result (Layout × List Lexeme) AsmFaultKind
labels_at n s (name w ∷ colon ∷ rest) =
    if is_some (place_in w s.labels) then Err kinds.LabelTwice else labels_at n (with_label n s w) rest
labels_at n s ts = Ok (s, ts)

-- a statement's length, and the name of a `.globl`, tested last
abbrev pub fitted : ℕ → Layout → Statement → Fields → Result Layout AsmFaultKind
fitted n s stated f =
    if nat_lt most_bytes (at_end s + length_of (at_end s) stated) then Err kinds.Limit
    else (globals_behind stated s.globals >>= λ names. Ok (with_item n s stated f names))

-- the statement of a line, if it has one
unfoldable pub placed : ℕ → Layout → Option Statement → Result Layout AsmFaultKind
placed n s None = Ok s
placed n s (Some stated) =
    if may_stand s.part stated then (fields_behind stated s.fields >>= λ f. fitted n s stated f)
    else Err kinds.Directive

-- one more line: its tokens, then its labels, then its statement
unfoldable pub line_step : ℕ → Layout → List ℕ → Result Layout AsmFaultKind
line_step n s line = do
  ts ← tokens_of line
  front ← labels_at n s ts
  stated ← statement_of front.1
  placed n front.0 stated

-- a step of a line, whose number its fault carries
abbrev pub at_line : {A B : Type 0} → ℕ → Result A AsmFaultKind → (A → Result B AsmFault) → Result B AsmFault
at_line n (Ok x) f = f x
at_line n (Err kind) f = Err (record { line = n; kind = kind })

-- the lines from number n on
unfoldable pub lines_from : ℕ → Layout → List (List ℕ) → Result Layout AsmFault
lines_from n s [] = Ok s
lines_from n s (line ∷ others) = at_line n (line_step n s line) (λ t. lines_from (n + 1) t others)

-- where everything of a source stands, or the first fault of the first pass
abbrev pub layout_of : List ℕ → Result Layout AsmFault
layout_of source = lines_from 1 empty_layout (lines source)

-- Where everything stands: laws above the two passes.
use Rattle.std.specs.Prelude.{◌≡◌, ℕ, ◌+◌, ◌<◌, ◌^◌, List, [], ◌∷◌, ◌++◌, take, drop, length, sum_by, IfSome, slice_get}
use Rattle.std.specs.Prelude.{true, Option, Some, None, Result, Ok, Err}
use Rattle.std.specs.List.{filter_map}
use Rattle.std.specs.Int.{w32, from_le_bytes}
use Rattle.rv_decode.specs.declared.instruction.Instr.{Instr}
use Rattle.rv_decode.specs.Decoded.{decoded}
use Rattle.rv_decode.specs.Table.{written_word}
use Rattle.rv_asm_tokens.specs.declared.fault.AsmFaultKind.{AsmFaultKind}
use Rattle.rv_asm_statements.specs.declared.statements.Statement.{Statement}
use Rattle.rv_asm_statements.specs.declared.statements.Statement.TheVariants.{Label, Instruction, Directive as Directed}
use Rattle.rv_asm_lines.specs.Item.{Item}
use Rattle.rv_asm_lines.specs.declared.parts.Part.{Part}
use Rattle.rv_asm_lines.specs.declared.parts.Part.TheVariants.{Text, Data}
use Rattle.rv_asm_lines.specs.declared.parts.Place.{Place}
use Rattle.rv_asm_lines.specs.Parts.{length_of, may_stand}
use Rattle.rv_asm_lines.specs.Resolved.{instrs_of}
use Rattle.rv_asm_lines.specs.Data.{directive_bytes}
use Rattle.rv_asm_lines.specs.Layout.{Layout, added, end_of, empty_layout, lines_from, place_in}

-- ---- addresses

-- how many bytes an item adds to a part
abbrev pub length_in : Part → Item → ℕ
length_in part i = added part i.place.part (length_of i.place.at i.statement)

-- the lengths in a part, added up
abbrev pub total : Part → List Item → ℕ
total part items = sum_by (length_in part) items

-- a label and where it stands, if the statement is one
abbrev pub stated_label : Place → Statement → Option (List ℕ × Place)
stated_label place (Label w) = Some (w, place)
stated_label place _ = None

abbrev pub label_place : Item → Option (List ℕ × Place)
label_place i = stated_label i.place i.statement

-- each item stands in its part at the sum of the lengths of those before it, the parts end behind the last, and a label
-- is where it stands
pub record IsPlaced (s : Layout) : Type 0 where
  pub addresses : (k : ℕ) → IfSome (slice_get s.items k) (λ i. i.place.at ≡ total i.place.part (take k s.items))
  pub text_end : s.text ≡ total Text s.items
  pub data_end : s.init ≡ total Data s.items
  pub labels : s.labels ≡ filter_map label_place s.items

-- lines that follow leave a label where it stands: only the text's length can move it
abbrev pub LabelsStay : Type 0
LabelsStay =
    (before after : List (List ℕ)) (s t : Layout) → lines_from 1 empty_layout before ≡ Ok s
    → lines_from 1 empty_layout (before ++ after) ≡ Ok t
    → (w : List ℕ) (place : Place) → place_in w s.labels ≡ Some place → place_in w t.labels ≡ Some place

-- ---- the text and the data

-- the words of a text, from an address on, are those of these instructions
abbrev pub Decodes : List ℕ → ℕ → List Instr → Type 0
Decodes text at [] = Unit {0}
Decodes text at (i ∷ is) = (decoded (from_le_bytes w32 (take 4 (drop at text))) ≡ Some i) × Decodes text (at + 4) is

-- what a step comes to, if it fits
abbrev pub IfRight : {A : Type 0} → Result A AsmFaultKind → (A → Type 0) → Type 0
IfRight (Ok x) P = P x
IfRight (Err e) P = Unit {0}

abbrev pub part_of : Part → List ℕ → List ℕ → List ℕ
part_of Text text init = text
part_of Data text init = init

-- a statement's instructions stand in the text at its address, and its bytes in its part
abbrev pub StandsIn : List (List ℕ × ℕ) → List ℕ → List ℕ → Place → Statement → Type 0
StandsIn labels text init p (Label w) = Unit {0}
StandsIn labels text init p (Instruction u) = IfRight (instrs_of labels p.at u.template u.filled) (Decodes text p.at)
StandsIn labels text init p (Directed d) =
    IfRight (directive_bytes labels p.at d)
    (λ bytes. take (length bytes) (drop p.at (part_of p.part text init)) ≡ bytes)

-- each item stands in a text and data at its place
abbrev pub HoldCode : List (List ℕ × ℕ) → List ℕ → List ℕ → List Item → Type 0
HoldCode labels text init [] = Unit {0}
HoldCode labels text init (i ∷ items) = StandsIn labels text init i.place i.statement × HoldCode labels text init items

-- ---- single instructions

-- the word that is written for the instruction is the instruction's
pub record IsWritten (i : Instr) : Type 0 where
  pub decodes : decoded (written_word i) ≡ Some i
  pub word : written_word i < 2 ^ 32

abbrev pub AllWritten : List Instr → Type 0
AllWritten [] = Unit {0}
AllWritten (i ∷ is) = IsWritten i × AllWritten is

-- all instructions of a statement, or of items, are written so
abbrev pub IsSound : List (List ℕ × ℕ) → ℕ → Statement → Type 0
IsSound labels at (Label w) = Unit {0}
IsSound labels at (Instruction u) = IfRight (instrs_of labels at u.template u.filled) AllWritten
IsSound labels at (Directed d) = Unit {0}

abbrev pub AreSound : List (List ℕ × ℕ) → List Item → Type 0
AreSound labels [] = Unit {0}
AreSound labels (i ∷ items) = IsSound labels i.place.at i.statement × AreSound labels items

-- each item may stand in its part, and stands where the ones before it end, the first behind so many bytes of text and
-- data
abbrev pub Follow : ℕ → ℕ → List Item → Type 0
Follow text init [] = Unit {0}
Follow text init (i ∷ items) =
    (i.place.at ≡ end_of i.place.part text init) × (may_stand i.place.part i.statement ≡ true)
    × Follow (text + length_in Text i) (init + length_in Data i) items

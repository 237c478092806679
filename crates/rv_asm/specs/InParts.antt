-- In which part each statement of a source stands.
use Rattle.std.specs.Prelude.{◌≡◌, ℕ, List, [], ◌∷◌, take, slice_get, All, IfSome, Option, Some, None}
use Rattle.rv_asm_statements.specs.declared.directives.Directive.{Directive}
use Rattle.rv_asm_statements.specs.declared.directives.Directive.TheVariants as directive
use Rattle.rv_asm_statements.specs.declared.directives.Width.TheVariants.{Byte, Half, Double}
use Rattle.rv_asm_statements.specs.declared.statements.Statement.{Statement}
use Rattle.rv_asm_statements.specs.declared.statements.Statement.TheVariants.{Instruction, Directive as Directed}
use Rattle.rv_asm_lines.specs.Item.{Item}
use Rattle.rv_asm_lines.specs.declared.parts.Part.{Part}
use Rattle.rv_asm_lines.specs.declared.parts.Part.TheVariants.{Text, Data}
use Rattle.rv_asm.specs.Directed.{said_by}

-- the part that `.text` or `.data` names
abbrev pub part_said : Directive → Option Part
part_said directive.Text = Some Text
part_said directive.Data = Some Data
part_said _ = None

-- the last of these, or else this one
abbrev pub last_or : {A : Type 0} → A → List A → A
last_or x [] = x
last_or x (y ∷ ys) = last_or y ys

-- instructions stand in the text, and data in the data part; but words of data may stand in both
abbrev pub IsAtHome : Part → Statement → Type 0
IsAtHome part (Instruction u) = part ≡ Text
IsAtHome part (Directed (directive.Items Byte items)) = part ≡ Data
IsAtHome part (Directed (directive.Items Half items)) = part ≡ Data
IsAtHome part (Directed (directive.Items Double items)) = part ≡ Data
IsAtHome part (Directed (directive.Bytes bytes)) = part ≡ Data
IsAtHome part (Directed (directive.Zero n)) = part ≡ Data
IsAtHome part (Directed (directive.Align n)) = part ≡ Data
IsAtHome part _ = Unit {0}

-- each statement stands in the part that the last `.text` or `.data` before it names, or in the text before the first
pub record StandInParts (items : List Item) : Type 0 where
  pub named : (k : ℕ)
      → IfSome (slice_get items k) (λ i. i.place.part ≡ last_or Text (said_by part_said (take k items)))
  pub at_home : All (λ i. IsAtHome i.place.part i.statement) items

-- The two parts of a source, and how long statements are.
use Rattle.std.specs.Prelude.{ℕ, ◌+◌, ◌-◌, ◌*◌, ◌%◌, length, Bool, true, false}
use Rattle.rv_image_types.specs.Image.{data_start}
use Rattle.rv_asm_statements.specs.declared.directives.Alignment.{Alignment}
use Rattle.rv_asm_statements.specs.declared.directives.Alignment.TheVariants.{One, Two, Four, Eight, Sixteen}
use Rattle.rv_asm_statements.specs.declared.directives.Directive.{Directive}
use Rattle.rv_asm_statements.specs.declared.directives.Directive.TheVariants as directive
use Rattle.rv_asm_statements.specs.declared.directives.Width.{Width}
use Rattle.rv_asm_statements.specs.declared.directives.Width.TheVariants.{Byte, Half, Word, Double}
use Rattle.rv_asm_statements.specs.declared.statements.Statement.{Statement}
use Rattle.rv_asm_statements.specs.declared.statements.Statement.TheVariants.{Label, Instruction, Directive as Directed}
use Rattle.rv_asm_lines.specs.declared.parts.Part.{Part}
use Rattle.rv_asm_lines.specs.declared.parts.Part.TheVariants.{Text, Data}
use Rattle.rv_asm_lines.specs.Resolved.{use_length}

-- the address of a place, where the text has so many bytes: the data begins at the text's length rounded up to 16
abbrev pub address : ℕ → Part → ℕ → ℕ
address text Text at = at
address text Data at = data_start text + at

abbrev pub width_bytes : Width → ℕ
width_bytes Byte = 1
width_bytes Half = 2
width_bytes Word = 4
width_bytes Double = 8

abbrev pub alignment_bytes : Alignment → ℕ
alignment_bytes One = 1
alignment_bytes Two = 2
alignment_bytes Four = 4
alignment_bytes Eight = 8
alignment_bytes Sixteen = 16

-- how many bytes are missing to the next multiple of n
abbrev pub padding : ℕ → ℕ → ℕ
padding n at = (n - at % n) % n

-- how many bytes a directive takes at a place of its part
abbrev pub directive_length : ℕ → Directive → ℕ
directive_length at (directive.Items width items) = width_bytes width * length items
directive_length at (directive.Bytes bytes) = length bytes
directive_length at (directive.Zero n) = n
directive_length at (directive.Align n) = padding (alignment_bytes n) at
directive_length at _ = 0

-- how many bytes a statement takes at a place of its part
abbrev pub length_of : ℕ → Statement → ℕ
length_of at (Label w) = 0
length_of at (Instruction u) = use_length u
length_of at (Directed d) = directive_length at d

-- the text has instructions and `.word`; all other data is in the data part
abbrev pub data_may_stand : Part → Width → Bool
data_may_stand Text Word = true
data_may_stand Text _ = false
data_may_stand Data _ = true

abbrev pub is_data : Part → Bool
is_data Text = false
is_data Data = true

abbrev pub is_text : Part → Bool
is_text Text = true
is_text Data = false

abbrev pub directive_may_stand : Part → Directive → Bool
directive_may_stand part (directive.Items width items) = data_may_stand part width
directive_may_stand part (directive.Bytes bytes) = is_data part
directive_may_stand part (directive.Zero n) = is_data part
directive_may_stand part (directive.Align n) = is_data part
directive_may_stand part _ = true

abbrev pub may_stand : Part → Statement → Bool
may_stand part (Label w) = true
may_stand part (Instruction u) = is_text part
may_stand part (Directed d) = directive_may_stand part d

-- the part that follows a statement
abbrev pub directive_part : Part → Directive → Part
directive_part part directive.Text = Text
directive_part part directive.Data = Data
directive_part part _ = part

abbrev pub part_after : Part → Statement → Part
part_after part (Directed d) = directive_part part d
part_after part _ = part

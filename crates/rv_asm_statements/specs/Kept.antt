-- What of a statement is kept in memory of its own: nothing else of it asks for any.
use Rattle.std.specs.Prelude.{ℕ, Bool, true, false, Option, Some, None, Result, Ok, Err, nat_lt, length, if◌then◌else◌}
use Rattle.std.specs.Prelude.{is_some}
use Rattle.rv_asm_tokens.specs.declared.fault.AsmFaultKind.{AsmFaultKind}
use Rattle.rv_asm_statements.specs.declared.directives.Directive.{Directive}
use Rattle.rv_asm_statements.specs.declared.directives.Directive.TheVariants as directive
use Rattle.rv_asm_statements.specs.declared.directives.Width.{Width}
use Rattle.rv_asm_statements.specs.declared.directive_rows.Form.{Form}
use Rattle.rv_asm_statements.specs.declared.directive_rows.Form.TheVariants.{Comm, Items}
use Rattle.rv_asm_statements.specs.declared.mnemonics.Use.{Use}

-- ---- directives

-- whether a directive takes two operands at most: a communicator and data take any number
abbrev pub takes_two : Form → Bool
takes_two Comm = false
takes_two (Items width) = false
takes_two _ = true

-- the width of data with more items than so many
abbrev pub long_items : ℕ → Option Directive → Option Width
long_items most (Some (directive.Items width items)) = if nat_lt most (length items) then Some width else None
long_items most _ = None

-- a directive that keeps a name, numbers, items or bytes, which asks for memory: no other does
abbrev pub holds : Directive → Bool
holds (directive.Entry w) = true
holds (directive.Global w) = true
holds (directive.Comm ranks) = true
holds (directive.Items width items) = true
holds (directive.Bytes bytes) = true
holds _ = false

abbrev pub is_kept : Option Directive → Bool
is_kept None = false
is_kept (Some d) = holds d

abbrev pub keeps : Result Directive AsmFaultKind → Bool
keeps (Ok d) = holds d
keeps (Err e) = false

-- an instruction that names a label, whose copy asks for memory: nothing else of an instruction does
abbrev pub has_label : Result Use AsmFaultKind → Bool
has_label (Ok u) = is_some u.filled.target.label
has_label (Err e) = false

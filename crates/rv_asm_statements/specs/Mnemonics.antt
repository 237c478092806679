-- An instruction by its mnemonic and operands.
use Rattle.std.specs.Prelude.{ℕ, List, Option, Some, None, Result, Bool, is_some, if◌then◌else◌}
use Rattle.std.specs.Option.{option_map}
use Rattle.std.specs.Str.{bytes_eq}
use Rattle.rv_asm_tokens.specs.declared.fault.AsmFaultKind.{AsmFaultKind}
use Rattle.rv_asm_tokens.specs.declared.fault.AsmFaultKind.TheVariants as kinds
use Rattle.rv_asm_tokens.specs.Fault.{if_some, wanted}
use Rattle.rv_asm_statements.specs.declared.mnemonics.Use.{Use}
use Rattle.rv_asm_statements.specs.Arguments.{Argument}
use Rattle.rv_asm_statements.specs.Shapes.{filled_by}
use Rattle.rv_asm_statements.specs.Rows.{Row, rows}
use Rattle.rv_asm_statements.specs.Walk.{first_given}

-- what a row makes of operands, if it is the mnemonic's and takes them
unfoldable pub row_use : List ℕ → List Argument → Row → Option Use
row_use w xs row =
    if bytes_eq row.name w
    then option_map (λ f. record { template = row.template; filled = f }) (filled_by row.shape xs)
    else None

-- what the first row that takes the operands makes of them
abbrev pub use_of : List ℕ → List Argument → Option Use
use_of w xs = first_given (row_use w xs) rows

-- whether a row has the name
abbrev pub row_named : List ℕ → Row → Option Row
row_named w row = if bytes_eq row.name w then Some row else None

abbrev pub is_mnemonic : List ℕ → Bool
is_mnemonic w = is_some (first_given (row_named w) rows)

-- the instruction of a mnemonic and its operands, which may not be operands at all
unfoldable pub instruction_of : List ℕ → Option (List Argument) → Result Use AsmFaultKind
instruction_of w operands =
    wanted (if_some operands None (λ xs. use_of w xs)) (if is_mnemonic w then kinds.Operand else kinds.Mnemonic)

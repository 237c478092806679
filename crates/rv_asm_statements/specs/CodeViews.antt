-- What the code has of operands, and of its table of registers.
use Rattle.rv_asm_tokens.specs.Lexeme.{number_value}
use Rattle.rv_asm_statements.specs.declared.operand_list.Operand.{Operand}
use Rattle.rv_asm_statements.specs.declared.operand_list.Operand.TheVariants.{Name, Number, Text, Sum, Place}
use Rattle.rv_asm_statements.specs.Arguments.{Argument, word, value, quoted, sum, place}
use Rattle.std.specs.Prelude.{ℕ, List}
use Rattle.rv_asm_statements.specs.declared.registers.RegisterName.{RegisterName}

-- an operand of the code
abbrev pub argument_view : Operand → Argument
argument_view (Name w) = word w.now
argument_view (Number n) = value (number_value n)
argument_view (Text bs) = quoted bs.now
argument_view (Sum w n) = sum w.now (number_value n)
argument_view (Place n w) = place (number_value n) w.now

-- a row of the code's table
abbrev pub register_view : RegisterName → List ℕ × ℕ
register_view row = (row.name.now, row.number)

-- A row of the code's table of directives.
use Rattle.std.specs.Prelude.{ℕ, List}
use Rattle.rv_asm_statements.specs.declared.directive_rows.DirectiveRow.{DirectiveRow}
use Rattle.rv_asm_statements.specs.declared.directive_rows.Form.{Form}

abbrev pub directive_row_view : DirectiveRow → List ℕ × Form
directive_row_view row = (row.name.now, row.form)

-- A row of the code's table.
use Rattle.rv_asm_statements.specs.declared.rows.Row.{Row as Stored}
use Rattle.rv_asm_statements.specs.Rows.{Row, row}

abbrev pub row_view : Stored → Row
row_view r = row r.name.now r.shape r.template

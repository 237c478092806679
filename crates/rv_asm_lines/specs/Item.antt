-- What stands where.
use Rattle.std.specs.Prelude.{ℕ}
use Rattle.rv_asm_statements.specs.declared.statements.Statement.{Statement}
use Rattle.rv_asm_lines.specs.declared.parts.Place.{Place}

-- a label or a statement, its line, and where it stands
pub record Item : Type 0 where
  pub line : ℕ
  pub place : Place
  pub statement : Statement

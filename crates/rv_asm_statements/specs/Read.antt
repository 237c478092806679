-- Operands as they are read, before a name is copied.
use Rattle.std.specs.Option.{option_map}
use Rattle.rv_asm_tokens.specs.Lexeme.{number_value}
use Rattle.rv_asm_statements.specs.declared.filled.Target.{Target}
use Rattle.rv_asm_statements.specs.declared.filled.TargetRef.{TargetRef}
use Rattle.rv_asm_statements.specs.declared.filled.Filled.{Filled}
use Rattle.rv_asm_statements.specs.declared.filled.FilledRef.{FilledRef}
use Rattle.rv_asm_statements.specs.declared.mnemonics.Use.{Use}
use Rattle.rv_asm_statements.specs.declared.mnemonics.UseRef.{UseRef}

abbrev pub read_target : TargetRef → Target
read_target t = record { label = option_map (λ w. w.now) t.label; number = number_value t.number }

abbrev pub read_filled : FilledRef → Filled
read_filled f = record { first = f.first; second = f.second; third = f.third; target = read_target f.target }

abbrev pub read_use : UseRef → Use
read_use u = record { template = u.template; filled = read_filled u.filled }

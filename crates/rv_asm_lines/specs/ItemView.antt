-- The item that the code keeps.
use Rattle.std.specs.Prelude.{ℕ, ℤ, None}
use Rattle.rv_asm_tokens.specs.Lexeme.{number_value}
use Rattle.rv_asm_statements.specs.declared.mnemonics.Use.{Use}
use Rattle.rv_asm_statements.specs.declared.statements.Statement.TheVariants.{Label, Instruction, Directive as Directed}
use Rattle.rv_asm_statements.specs.declared.rows.Template.{Template}
use Rattle.rv_asm_lines.specs.declared.item.Item.TheInside.{Inside}
use Rattle.rv_asm_lines.specs.declared.item.Kept.{Kept}
use Rattle.rv_asm_lines.specs.declared.item.Kept.TheVariants as kept
use Rattle.rv_asm_lines.specs.Item.{Item}

-- an instruction that names no label
abbrev pub unlabelled : Template → ℕ → ℕ → ℕ → ℤ → Use
unlabelled template first second third number =
    record {
      template = template;
      filled = record {
        first = first;
        second = second;
        third = third;
        target = record { label = None; number = number };
      };
    }

abbrev pub kept_view : Kept → Item
kept_view (kept.Label part at line name) =
    record { line = line; place = record { part = part; at = at }; statement = Label name.now }
kept_view (kept.Plain part template at first second third negative line magnitude) =
    record {
      line = line;
      place = record { part = part; at = at };
      statement = Instruction (unlabelled template first second third
          (number_value (record { negative = negative; magnitude = magnitude })));
    }
kept_view (kept.Directive part at line d) =
    record { line = line; place = record { part = part; at = at }; statement = Directed d.value }
kept_view (kept.Other part at line stated) =
    record { line = line; place = record { part = part; at = at }; statement = stated.value }

abbrev pub item_view : Inside → Item
item_view i = kept_view i.kept

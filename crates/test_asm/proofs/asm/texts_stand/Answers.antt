use Rattle.std.proofs.Common.{refl}
use Rattle.rv_decode.specs.Table.{written_word}
use Rattle.rv_asm_tokens.specs.Digits.{digits_from, magnitude, with_digit}
use Rattle.rv_asm_tokens.specs.Escapes.{is_escape, quote_step, quoted_length, text_from}
use Rattle.rv_asm_tokens.specs.Scan.{front_at, tokens_from}
use Rattle.rv_asm_statements.specs.Directives.{directive_by, directive_of}
use Rattle.rv_asm_statements.specs.Limits.{limited}
use Rattle.rv_asm_statements.specs.Mnemonics.{instruction_of, row_use}
use Rattle.rv_asm_statements.specs.Shapes.{filled_by}
use Rattle.rv_asm_statements.specs.Statements.{statement_of}
use Rattle.rv_asm_lines.specs.Fields.{fields_after}
use Rattle.rv_asm_lines.specs.Data.{directive_bytes, item_bytes, items_bytes, link_between, low_bytes, members_from, members_of}
use Rattle.rv_asm_lines.specs.Layout.{labels_at, line_step, lines_from, placed}
use Rattle.rv_asm_lines.specs.Output.{directive_step, items_from, label_step, stated_step, with_entry_point, with_use}
use Rattle.rv_asm_lines.specs.Resolved.{even_ranged, instrs_of, label_offset, ranged, upper_immediate, use_length}
use Rattle.rv_asm.specs.Source.{finished, meaning}
use Rattle.test_asm.proofs.asm.texts_stand.Goals as goal

pub returns : goal.returns
unfolding meaning lines_from line_step labels_at placed items_from finished stated_step directive_step directive_bytes items_bytes item_bytes low_bytes ranged label_offset with_use with_entry_point instrs_of written_word use_length label_step tokens_from front_at statement_of instruction_of directive_of row_use filled_by directive_by magnitude digits_from with_digit fields_after limited members_of members_from link_between even_ranged upper_immediate quoted_length quote_step is_escape text_from
returns c = refl

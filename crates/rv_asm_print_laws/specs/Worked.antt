-- Worked values: lines and the words that GNU as writes of them.
use Rattle.std.specs.Prelude.{◌≡◌, ◌∷◌, [], Ok, codes, refl}
use Rattle.rv_asm_tokens.specs.Digits.{with_digit, digits_from, magnitude}
use Rattle.rv_asm_tokens.specs.Scan.{front_at, tokens_from}
use Rattle.rv_asm_statements.specs.Shapes.{filled_by}
use Rattle.rv_asm_statements.specs.Mnemonics.{row_use, instruction_of}
use Rattle.rv_asm_statements.specs.Statements.{statement_of}
use Rattle.rv_decode.specs.Table.{written_word}
use Rattle.rv_asm_lines.specs.Resolved.{ranged, even_ranged, label_offset, upper_immediate, instrs_of, use_length}
use Rattle.rv_asm_lines.specs.Layout.{labels_at, placed, line_step, lines_from}
use Rattle.rv_asm_lines.specs.Output.{with_use, stated_step, items_from}
use Rattle.rv_asm.specs.Source.{finished, meaning}
use Rattle.rv_asm_print_laws.specs.Read.{image_of}

pub addi_line : meaning (codes "addi x5, x5, -1688")
    ≡ Ok (record (image_of []) { text = 0x93 ∷ 0x82 ∷ 0x82 ∷ 0x96 ∷ [] })
unfolding with_digit digits_from magnitude front_at tokens_from filled_by row_use instruction_of statement_of
    written_word ranged instrs_of use_length labels_at placed line_step lines_from with_use stated_step items_from
    finished meaning
addi_line = refl

pub lui_line : meaning (codes "lui x5, 0xa7") ≡ Ok (record (image_of []) { text = 0xb7 ∷ 0x72 ∷ 0x0a ∷ 0x00 ∷ [] })
unfolding with_digit digits_from magnitude front_at tokens_from filled_by row_use instruction_of statement_of
    written_word ranged upper_immediate instrs_of use_length labels_at placed line_step lines_from with_use stated_step
    items_from finished meaning
lui_line = refl

pub jal_line : meaning (codes "jal x0, -4") ≡ Ok (record (image_of []) { text = 0x6f ∷ 0xf0 ∷ 0xdf ∷ 0xff ∷ [] })
unfolding with_digit digits_from magnitude front_at tokens_from filled_by row_use instruction_of statement_of
    written_word even_ranged label_offset instrs_of use_length labels_at placed line_step lines_from with_use
    stated_step items_from finished meaning
jal_line = refl

pub fence_line : meaning (codes "fence") ≡ Ok (record (image_of []) { text = 0x0f ∷ 0x00 ∷ 0xf0 ∷ 0x0f ∷ [] })
unfolding front_at tokens_from filled_by row_use instruction_of statement_of written_word instrs_of use_length labels_at
    placed line_step lines_from with_use stated_step items_from finished meaning
fence_line = refl

use Rattle.rv_asm_print_laws.proofs.Instructions.{printed_line}
use Rattle.rv_asm_print_laws.proofs.Programs.{text_read}
use Rattle.rv_asm_print_laws.proofs.laws.printed_text_gives_back.Goals as goal

pub returns : goal.returns
returns c = text_read c.args.instr (printed_line c.args.instr c.in_range.ensures c.requires)

use Rattle.rv_asm_print_laws.proofs.Instructions.{printed_line}
use Rattle.rv_asm_print_laws.proofs.Programs.{stands_anywhere}
use Rattle.rv_asm_print_laws.proofs.laws.printed_line_stands_anywhere.Goals as goal

pub returns : goal.returns
returns c = stands_anywhere c.args.instr (printed_line c.args.instr c.in_range.ensures c.requires)

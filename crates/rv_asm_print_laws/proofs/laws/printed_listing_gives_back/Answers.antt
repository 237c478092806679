use Rattle.rv_asm_print_laws.proofs.Programs.{listing_read, all_printed}
use Rattle.rv_asm_print_laws.proofs.laws.printed_listing_gives_back.Goals as goal

pub returns : goal.returns
returns c = listing_read c.args.instrs.now (all_printed c.args.instrs.now c.all_in_range.ensures c.requires.fit) c.requires.any c.requires.room

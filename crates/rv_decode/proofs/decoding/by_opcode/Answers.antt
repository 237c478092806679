-- No arm has the word's opcode, so no row has it.
use Rattle.std.proofs.Common.{rules, sym}
use Rattle.rv_decode.proofs.Lookup.{decoded_other}
use Rattle.rv_decode.proofs.decoding.by_opcode.Goals as goal

pub returns-in_default : goal.returns-in_default
returns-in_default c =
    sym (decoded_other c.args.word (search rules) (search rules) (search rules) (search rules) (search rules) (search rules) (search rules) (search rules) (search rules) (search rules) (search rules) (search rules) (search rules))

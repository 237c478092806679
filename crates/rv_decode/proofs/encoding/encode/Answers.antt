-- The table has one word for the instruction, and the look-up finds the instruction of it.
use Rattle.std.proofs.Common.{rules}
use Rattle.rv_decode.proofs.Found.{found}
use Rattle.rv_decode.proofs.OneWord.{one_word}
use Rattle.rv_decode.proofs.encoding.encode.Goals as goal

pub returns-clause-only_word : goal.returns-clause-only_word
returns-clause-only_word c = λ w b h. one_word w c.word_of.result b (search rules) c.args.instr.now h c.word_of.ensures.word

pub returns-clause-decoded_back : goal.returns-clause-decoded_back
returns-clause-decoded_back c = found c.word_of.result c.args.instr.now c.word_of.ensures.word

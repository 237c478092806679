-- The look-up's laws, at the word.
use Rattle.std.proofs.Common.{rules}
use Rattle.rv_decode.proofs.Found.{found_exactly, found_fits, none_exactly}
use Rattle.rv_decode.proofs.decoding.decode.Goals as goal

pub returns-clause-found : goal.returns-clause-found
returns-clause-found c = rw c.by_opcode.ensures (found_exactly c.args.word)

pub returns-clause-fits : goal.returns-clause-fits
returns-clause-fits c = rw c.by_opcode.ensures (found_fits c.args.word (search rules))

pub returns-clause-none : goal.returns-clause-none
returns-clause-none c = rw c.by_opcode.ensures (none_exactly c.args.word)

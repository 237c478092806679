-- The text of the definition, computed.
use Rattle.std.specs.Fmt.{digits}
use Rattle.test_words.proofs.decode.offset_is_printed_with_its_sign.Goals as goal

pub returns : goal.returns
unfolding digits
returns c = rw c.new.ensures at c.print_instr.ensures.text

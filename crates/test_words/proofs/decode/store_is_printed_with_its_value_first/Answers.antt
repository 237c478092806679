-- The text of the definition, computed.
use Rattle.std.specs.Fmt.{digits}
use Rattle.test_words.proofs.decode.store_is_printed_with_its_value_first.Goals as goal

pub returns : goal.returns
unfolding digits
returns c = rw c.new.ensures at (rw c.new-2.ensures at c.print_instr.ensures.text)

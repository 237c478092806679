-- What was written is read as the same image.
use Rattle.rv_image.proofs.Whole.{written_again}
use Rattle.rv_image.proofs.writing.write_image.Goals as goal

pub returns-clause-read_again : goal.returns-clause-read_again
returns-clause-read_again c = written_again c.args.image.now c.text_of.result c.parts.ensures.limits (rw (← c.parts.ensures.parts) c.text_of.ensures)

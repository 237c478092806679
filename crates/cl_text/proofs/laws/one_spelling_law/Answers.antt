-- What is spelled is read again, and what is read is spelled so.
use Rattle.cl_text.proofs.ReadAgain.{read_again}
use Rattle.cl_text.proofs.SpelledWhole.{spelled_so}
use Rattle.cl_text.proofs.laws.one_spelling_law.Goals as goal

pub returns : goal.returns
returns c = record { read_again = read_again; spelled_so = spelled_so }

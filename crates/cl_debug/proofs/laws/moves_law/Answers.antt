use Rattle.cl_debug.proofs.Moved.{back_law, goes_on_law}
use Rattle.cl_debug.proofs.laws.moves_law.Goals as goal

pub returns-clause-back : goal.returns-clause-back
returns-clause-back c = back_law

pub returns-clause-run : goal.returns-clause-run
returns-clause-run c = goes_on_law

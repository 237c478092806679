use Rattle.cl_contest_laws.proofs.Starts as source
use Rattle.cl_contest_laws.proofs.laws.good_law.Goals as goal

pub returns : goal.returns
returns c = source.good_law

use Rattle.cl_contest_laws.proofs.Contest as source
use Rattle.cl_contest_laws.proofs.laws.contest_law.Goals as goal

pub returns : goal.returns
returns c = source.contest_law

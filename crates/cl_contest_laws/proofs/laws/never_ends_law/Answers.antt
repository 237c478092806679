use Rattle.cl_contest_laws.proofs.Unending as source
use Rattle.cl_contest_laws.proofs.laws.never_ends_law.Goals as goal

pub returns : goal.returns
returns c = source.never_ends_law

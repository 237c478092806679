use Rattle.cl_source_laws.proofs.Likeness as source
use Rattle.cl_source_laws.proofs.laws.likeness_law.Goals as goal

pub returns : goal.returns
returns c = source.likeness_law

use Rattle.cl_source_laws.proofs.GoAlike as source
use Rattle.cl_source_laws.proofs.laws.go_alike_law.Goals as goal

pub returns : goal.returns
returns c = source.go_alike_law

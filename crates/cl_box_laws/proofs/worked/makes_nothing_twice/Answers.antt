use Rattle.cl_box_laws.proofs.Cases as source
use Rattle.cl_box_laws.proofs.worked.makes_nothing_twice.Goals as goal

pub returns : goal.returns
returns c = source.twice

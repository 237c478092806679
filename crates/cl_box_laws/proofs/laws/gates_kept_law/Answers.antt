use Rattle.cl_box_laws.proofs.Kept as source
use Rattle.cl_box_laws.proofs.laws.gates_kept_law.Goals as goal

pub returns : goal.returns
returns c = source.gates_kept

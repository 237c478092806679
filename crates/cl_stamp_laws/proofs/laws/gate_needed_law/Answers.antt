use Rattle.cl_stamp_laws.proofs.Needed as source
use Rattle.cl_stamp_laws.proofs.laws.gate_needed_law.Goals as goal

pub returns : goal.returns
returns c = source.gate_needed

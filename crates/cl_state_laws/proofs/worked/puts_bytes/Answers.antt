use Rattle.cl_state_laws.proofs.Cases as worked
use Rattle.cl_state_laws.proofs.worked.puts_bytes.Goals as goal

pub returns : goal.returns
returns c = worked.put

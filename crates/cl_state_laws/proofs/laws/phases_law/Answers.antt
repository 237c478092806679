use Rattle.cl_state.proofs.Phases as law
use Rattle.cl_state_laws.proofs.laws.phases_law.Goals as goal

pub returns : goal.returns
returns c = law.moved_by

use Rattle.cl_state.proofs.Known as law
use Rattle.cl_state_laws.proofs.laws.questions_law.Goals as goal

pub returns : goal.returns
returns c = law.known

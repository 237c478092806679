use Rattle.cl_state_laws.proofs.Moves as moves
use Rattle.cl_state_laws.proofs.laws.refusal_law.Goals as goal

pub returns : goal.returns
returns c = moves.refused

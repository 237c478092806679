use Rattle.cl_state.proofs.Moves as moves
use Rattle.cl_state_laws.proofs.laws.told_law.Goals as goal

pub returns : goal.returns
returns c = moves.told_at

use Rattle.cl_replay.proofs.Runs as proof
use Rattle.cl_replay.proofs.laws.run_law.Goals as goal

pub returns : goal.returns
returns c = proof.run_law

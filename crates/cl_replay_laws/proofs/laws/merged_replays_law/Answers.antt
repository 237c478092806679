use Rattle.cl_replay_laws.proofs.Records as proof
use Rattle.cl_replay_laws.proofs.laws.merged_replays_law.Goals as goal

pub returns : goal.returns
returns c = proof.merged_replays

use Rattle.cl_state_laws.proofs.Replies as replies
use Rattle.cl_state_laws.proofs.laws.hub_refusal_law.Goals as goal

pub returns : goal.returns
returns c = replies.refused_by_hub

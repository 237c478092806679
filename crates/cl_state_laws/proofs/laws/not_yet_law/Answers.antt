use Rattle.cl_state_laws.proofs.Replies as replies
use Rattle.cl_state_laws.proofs.laws.not_yet_law.Goals as goal

pub returns : goal.returns
returns c = replies.kept_not_yet_told

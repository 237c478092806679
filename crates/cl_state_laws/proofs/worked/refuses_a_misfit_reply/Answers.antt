use Rattle.cl_state_laws.proofs.Cases as worked
use Rattle.cl_state_laws.proofs.worked.refuses_a_misfit_reply.Goals as goal

pub returns : goal.returns
returns c = worked.misfit

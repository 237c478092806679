use Rattle.cl_machine.proofs.Cases as worked
use Rattle.cl_machine.proofs.worked.gets_nothing_unsent.Goals as goal

pub returns : goal.returns
returns c = worked.nothing_sent

use Rattle.cl_machine.proofs.LoadedRun as worked
use Rattle.cl_machine.proofs.worked.loads_and_ends.Goals as goal

pub returns : goal.returns
returns c = worked.loaded_run

use Rattle.cl_machine.proofs.Verdicts as verdicts
use Rattle.cl_machine.proofs.laws.step_by_step_law.Goals as goal

pub returns : goal.returns
returns c = verdicts.step_by_step

use Rattle.cl_machine.proofs.Verdicts as verdicts
use Rattle.cl_machine.proofs.laws.one_merge_law.Goals as goal

pub returns : goal.returns
returns c = verdicts.one_merge

use Rattle.cl_machine.proofs.Tables as tables
use Rattle.cl_machine.proofs.laws.one_end_law.Goals as goal

pub returns : goal.returns
returns c = tables.one_end

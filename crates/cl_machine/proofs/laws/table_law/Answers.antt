use Rattle.cl_machine.proofs.Tables as tables
use Rattle.cl_machine.proofs.laws.table_law.Goals as goal

pub returns : goal.returns
returns c = tables.table_law

-- The law of the first failing row is proved with the readers' steps.
use Rattle.cl_text.proofs.Order as law
use Rattle.cl_text.proofs.laws.first_fault_law.Goals as goal

pub returns : goal.returns
returns c = law.first_fault_law

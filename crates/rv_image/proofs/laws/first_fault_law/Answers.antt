-- The law of the first failing row is proved with the readers' steps.
use Rattle.rv_image.proofs.Order as law
use Rattle.rv_image.proofs.laws.first_fault_law.Goals as goal

pub returns : goal.returns
returns c = law.first_fault_law

use Rattle.cl_state_laws.proofs.Registers as law
use Rattle.cl_state_laws.proofs.laws.registers_law.Goals as goal

pub returns : goal.returns
returns c = law.registers

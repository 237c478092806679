use Rattle.cl_machine.proofs.Witness as witness
use Rattle.cl_machine.proofs.worked.joins_a_box.Goals as goal

pub returns : goal.returns
returns c = witness.joined

use Rattle.rvmc_gdb.proofs.Heard as law
use Rattle.rvmc_gdb.proofs.laws.pieces_law.Goals as goal

pub returns : goal.returns
returns c = law.pieces_law

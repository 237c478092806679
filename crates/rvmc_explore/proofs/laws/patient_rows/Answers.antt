use Rattle.rvmc_explore.proofs.WorkedPatience.{worked}
use Rattle.rvmc_explore.proofs.laws.patient_rows.Goals as goal

pub returns : goal.returns
returns c = worked

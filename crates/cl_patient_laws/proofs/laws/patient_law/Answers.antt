use Rattle.cl_patient_laws.proofs.Patience as source
use Rattle.cl_patient_laws.proofs.laws.patient_law.Goals as goal

pub returns : goal.returns
returns c = source.patient_law

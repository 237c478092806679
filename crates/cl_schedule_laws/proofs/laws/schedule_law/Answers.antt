use Rattle.cl_schedule_laws.proofs.Schedules as source
use Rattle.cl_schedule_laws.proofs.laws.schedule_law.Goals as goal

pub returns : goal.returns
returns c = source.schedule_law

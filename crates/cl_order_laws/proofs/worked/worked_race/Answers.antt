use Rattle.cl_order_laws.proofs.RaceAtOnce as law
use Rattle.cl_order_laws.proofs.worked.worked_race.Goals as goal

pub returns : goal.returns
returns c = law.worked_race

use Rattle.rvmc_tool_laws.proofs.Recorded as law
use Rattle.rvmc_tool_laws.proofs.answers.recorded_is_good.Goals as goal

pub returns : goal.returns
returns c = law.recorded_is_good

use Rattle.rvmc_tool_laws.proofs.Ends as law
use Rattle.rvmc_tool_laws.proofs.answers.stops_fit.Goals as goal

pub returns : goal.returns
returns c = law.stops_fit

use Rattle.rvmc_tool_laws.proofs.Symbols as law
use Rattle.rvmc_tool_laws.proofs.waits.nearest_law.Goals as goal

pub returns : goal.returns
returns c = law.nearest_law

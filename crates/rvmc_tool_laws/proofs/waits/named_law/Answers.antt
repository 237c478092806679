use Rattle.rvmc_tool_laws.proofs.Whom as law
use Rattle.rvmc_tool_laws.proofs.waits.named_law.Goals as goal

pub returns : goal.returns
returns c = law.named_law

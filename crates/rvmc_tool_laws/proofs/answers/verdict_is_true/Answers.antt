use Rattle.rvmc_tool_laws.proofs.Verdicts as law
use Rattle.rvmc_tool_laws.proofs.answers.verdict_is_true.Goals as goal

pub returns : goal.returns
returns c = law.verdict_is_true

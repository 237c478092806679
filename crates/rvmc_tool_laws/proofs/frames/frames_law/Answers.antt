use Rattle.rvmc_tool_laws.proofs.Chains as law
use Rattle.rvmc_tool_laws.proofs.frames.frames_law.Goals as goal

pub returns-clause-rise : goal.returns-clause-rise
returns-clause-rise c = law.rise

pub returns-clause-held : goal.returns-clause-held
returns-clause-held c = law.held

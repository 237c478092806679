use Rattle.std.proofs.Common.{None}
use Rattle.rvmc_tool.proofs.starting.told.Goals as goal

pub returns-in-Err-clause-fault : goal.returns-in-Err-clause-fault
returns-in-Err-clause-fault g c = c.fault_of.ensures c.args.image.now c.args.reach.states c.args.reach.turns None c.in-Err.ensures.fault

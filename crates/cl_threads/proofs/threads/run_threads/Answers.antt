use Rattle.cl_arrival_laws.proofs.Runs.{arrived_ok}
use Rattle.cl_threads.proofs.Gathered.{merged_ok, planned_ok, planned_refused}
use Rattle.cl_threads.specs.declared.until.Until.{Until}
use Rattle.cl_threads.proofs.threads.run_threads.Goals as goal

pub returns-clause-run : goal.returns-clause-run
returns-clause-run g c = planned_ok c.args.image.now c.args.plans.now c.run_until.result c.run_until.ensures.run

pub returns-clause-merged : goal.returns-clause-merged
returns-clause-merged g c =
    merged_ok Until.Planned c.args.image.now c.args.plans.now c.run_until.result c.parts-parts.ensures.limits c.run_until.ensures.run

pub returns-clause-arrived : goal.returns-clause-arrived
returns-clause-arrived g c =
    arrived_ok c.args.image.now c.run_until.result c.parts-parts.ensures.limits (returns-clause-merged g c)

pub returns-clause-fault : goal.returns-clause-fault
returns-clause-fault g c = planned_refused c.args.image.now c.args.plans.now c.run_until.result c.run_until.ensures.fault

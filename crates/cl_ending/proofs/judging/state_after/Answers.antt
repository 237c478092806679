use Rattle.std.proofs.Common.{length}
use Rattle.cl_ending.proofs.DeadEnds.{breaks_at}
use Rattle.cl_ending.proofs.judging.state_after.Goals as goal

pub returns-in-Ok : goal.returns-in-Ok
returns-in-Ok c = c.in-Ok.ensures.reached

-- none of the steps is wrong
pub unreachable-requires-in-Err-Step : goal.unreachable-requires-in-Err-Step
unreachable-requires-in-Err-Step c =
    c.requires c.in-Err-Step.field-0-0
    (breaks_at c.args.image.now c.args.steps.now (length c.args.steps.now) c.in-Err-Step.field-0-0 c.in-Err-Step.field-0
    c.in-Err-Step.field-0-is c.in-Err-Step.ensures.fault)

use Rattle.std.proofs.Common.{ap, length}
use Rattle.std.proofs.lemmas.Result.{IfOk-weaker}
use Rattle.cl_ending.proofs.DeadEnds.{no_break, verdict_at}
use Rattle.cl_ending.proofs.judging.dead_end.Goals as goal

-- the steps are a run, so none of them is wrong
pub state_after-requires : goal.state_after-requires
state_after-requires c =
    no_break c.args.image.now c.args.left.now c.in_ok-steps.steps.items c.as_slice.result.now c.requires.merged
    (c.in_ok-steps.ensures c.requires.few) c.as_slice.ensures.value

pub returns : goal.returns
returns c =
    let steps = c.in_ok-steps.steps in
    IfOk-weaker c.deadlock.result _ _
    (λ found verdict. verdict_at c.args.image.now c.args.left.now steps.items c.as_slice.result.now
    (length c.as_slice.result.now) c.in_ok-state.state c.parts-parts.ensures.limits (c.in_ok-steps.ensures c.requires.few)
    c.as_slice.ensures.value (ap length c.as_slice.ensures.value) c.in_ok-state.ensures _ verdict)
    c.deadlock.ensures

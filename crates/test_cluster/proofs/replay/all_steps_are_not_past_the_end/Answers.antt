use Rattle.std.proofs.Common.{arith, length}
use Rattle.cl_replay.specs.InnerReplaying.{ReplayFaultHolds}
use Rattle.cl_replay.specs.declared.replaying.ReplayFault.{ReplayFault}
use Rattle.test_cluster.proofs.Replaying.{of_fault}
use Rattle.test_cluster.proofs.replay.all_steps_are_not_past_the_end.Goals as goal

pub returns : goal.returns
returns c = λ len is.
    let image = c.args.image.now in
    let steps = c.args.steps.now in
    let past = of_fault (ReplayFaultHolds image steps (length steps)) c.replay.result (ReplayFault.PastEnd len) is
    c.replay.ensures.fault in
    omega (arith, past.0)

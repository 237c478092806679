use Rattle.cl_replay.specs.InnerReplaying.{ReplayFaultHolds}
use Rattle.cl_replay.specs.declared.replaying.ReplayFault.{ReplayFault}
use Rattle.test_cluster.proofs.Replaying.{of_fault, one_break}
use Rattle.test_cluster.proofs.replay.the_broken_step_is_told.Goals as goal

pub returns : goal.returns
returns c = λ k told at is.
    let image = c.args.image.now in
    let steps = c.args.steps.now in
    let holds = of_fault (ReplayFaultHolds image steps c.args.n) c.replay.result (ReplayFault.Step told) is
    c.replay.ensures.fault in
    one_break image steps told k holds.2 at

use Rattle.std.proofs.Common.{refl, arith, length}
use Rattle.std.proofs.lemmas.Option.{slice_get_read}
use Rattle.cl_replay.proofs.Runs.{breaks, reached_more}
use Rattle.cl_replay.proofs.states.ClusterState.walk.Goals as goal

pub returns-in-Err-NotAStep-clause-fault : goal.returns-in-Err-NotAStep-clause-fault
returns-in-Err-NotAStep-clause-fault c =
    let steps = c.args.steps.now in
    let n = c.loop-n.n in
    let there = slice_get_read steps (length steps) n c.index-steps-n.result refl
    (omega (arith, c.loop-n-test.true, c.requires.within)) c.index-steps-n.is in (
      c.loop-n-test.true,
      λ image reached.
          breaks image steps n c.loop-n.self (c.loop-n.invariant.0 image reached) c.index-steps-n.result there
          (rw c.in-Err-NotAStep.field-0-is at c.in-Err-NotAStep.ensures.fault),
    )

pub loop-n-preserved : goal.loop-n-preserved
loop-n-preserved c =
    let steps = c.args.steps.now in
    let n = c.loop-n.n in
    let there = slice_get_read steps (length steps) n c.index-steps-n.result refl
    (omega (arith, c.loop-n-test.true, c.requires.within)) c.index-steps-n.is in (
      λ image reached.
          c.go_on-n.ensures.leads image
          (reached_more image steps n c.loop-n.self (c.loop-n.invariant.0 image reached) c.index-steps-n.result there
          c.step.new.self c.in-Ok.ensures.leads),
      c.go_on-n.ensures.within,
    )

use Rattle.std.proofs.Common.{arith}
use Rattle.cl_rank.specs.Plains.{IsHartStep}
use Rattle.cl_rank.proofs.PlainTurns.{repeats_more}
use Rattle.cl_rank.proofs.plains.step_hart.Goals as goal

pub loop-done-preserved : goal.loop-done-preserved
loop-done-preserved c =
    let so_far = c.loop-done.invariant in
    let step = c.step_running.ensures in
    let took = c.if-not-step_running.false in
    record {
      within = omega (arith, c.loop-done-test.true);
      steps = repeats_more IsHartStep c.loop-done.done (c.args.hart.now, c.args.memory.now)
          (c.loop-done.hart, c.loop-done.memory) (c.step_running.new.hart, c.step_running.new.memory) so_far.steps
          (record {
            running = step.running took;
            no_call = step.no_call took;
            steps = λ i. (step.hart took i, step.memory took i);
          });
    }

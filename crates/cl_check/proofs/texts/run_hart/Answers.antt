use Rattle.std.proofs.Common.{◌+◌, arith, refl}
use Rattle.cl_replay.specs.Walking.{hart_at}
use Rattle.cl_check.proofs.TakenRuns.{none_run, run_more}
use Rattle.cl_check.proofs.texts.run_hart.Goals as goal

pub loop-n-init : goal.loop-n-init
loop-n-init c = (
  omega arith,
  none_run c.args.image.now c.args.last (hart_at c.args.hart.now c.args.memory.now c.args.last.stamp) c.args.bytes.now refl,
)

pub loop-n-preserved : goal.loop-n-preserved
loop-n-preserved c =
    let so_far = c.loop-n.invariant in
    let done = c.if-not-step_running.false in (
      omega (arith, so_far.0),
      run_more c.args.image.now c.args.last (hart_at c.args.hart.now c.args.memory.now c.args.last.stamp)
          (hart_at c.loop-n.hart c.loop-n.memory c.loop-n.clock)
          (hart_at c.step_running.new.hart c.step_running.new.memory (c.loop-n.clock + 1)) c.args.bytes.now
          c.loop-n.rest.now c.in-Some.after.now so_far.1 c.in-Some.ensures
          (omega (arith, so_far.0, c.loop-n-test.true, c.requires.low)) (c.step_running.ensures.running done)
          (c.step_running.ensures.no_call done) (c.step_running.ensures.hart done) (c.step_running.ensures.memory done)
          refl,
    )

use Rattle.std.proofs.Common.{◌+◌, arith, length, refl, sym, subst}
use Rattle.std.proofs.lemmas.Option.{slice_get_read}
use Rattle.rv_hart.specs.State.{State}
use Rattle.rv_memory.specs.Memory.{Memory}
use Rattle.cl_replay.specs.Walking.{HartGoesOn, hart_at}
use Rattle.cl_replay.proofs.Walks.{hart_more, hart_nowhere}
use Rattle.cl_replay.proofs.walking.run_hart.Goals as goal

pub loop-step-init : goal.loop-step-init
loop-step-init c = (
  omega arith,
  hart_nowhere c.args.run.now c.args.whose (hart_at c.args.hart.now c.args.memory.now c.args.clock),
)

pub returns-then-not-comes_next-clause-goes : goal.returns-then-not-comes_next-clause-goes
returns-then-not-comes_next-clause-goes c =
    let so_far = c.loop-step.invariant in
    subst (λ n. HartGoesOn c.args.run.now c.args.whose (hart_at c.args.hart.now c.args.memory.now c.args.clock) n
    (hart_at c.loop-step.hart c.loop-step.memory c.loop-step.reached)) (omega (arith, so_far.0)) so_far.1

pub returns-then-not-step_running-clause-goes : goal.returns-then-not-step_running-clause-goes
returns-then-not-step_running-clause-goes c =
    let so_far = c.loop-step.invariant in
    let run = c.args.run.now in
    let old = hart_at c.args.hart.now c.args.memory.now c.args.clock in
    let reached = c.loop-step.reached in
    let undone = c.if-not-step_running.true in
    subst (λ n. HartGoesOn run c.args.whose old n (hart_at c.step_running.new.hart c.step_running.new.memory reached))
    (omega (arith, so_far.0))
    (subst (λ (m : Memory). HartGoesOn run c.args.whose old c.loop-step.step-index
    (hart_at c.step_running.new.hart m reached)) (sym (c.step_running.ensures.same_memory undone))
    (subst (λ (h : State). HartGoesOn run c.args.whose old c.loop-step.step-index
    (hart_at h c.loop-step.memory reached)) (sym (c.step_running.ensures.same_hart undone)) so_far.1))

pub loop-step-preserved : goal.loop-step-preserved
loop-step-preserved c =
    let so_far = c.loop-step.invariant in
    let run = c.args.run.now in
    let n = c.loop-step.step-index in
    let came = c.if-not-comes_next.false in
    let done = c.if-not-step_running.false in
    let stamp = c.comes_next.ensures.stamp came in (
      omega (arith, so_far.0),
      hart_more run c.args.whose (hart_at c.args.hart.now c.args.memory.now c.args.clock) n
          (hart_at c.loop-step.hart c.loop-step.memory c.loop-step.reached) so_far.1 c.step-item.result
          (slice_get_read run (length run) n c.step-item.result refl c.loop-step-test.true c.step-item.is)
          (c.comes_next.ensures.plain came) (c.comes_next.ensures.rank came) (c.comes_next.ensures.hart came) stamp
          (omega (arith, stamp, so_far.0, c.loop-step-test.true, c.requires.low))
          (hart_at c.step_running.new.hart c.step_running.new.memory (c.loop-step.reached + 1))
          (c.step_running.ensures.running done) (c.step_running.ensures.no_call done)
          (c.step_running.ensures.hart done) (c.step_running.ensures.memory done) (sym stamp),
    )

pub returns-clause-goes : goal.returns-clause-goes
returns-clause-goes c =
    let so_far = c.loop-step.invariant in
    subst (λ n. HartGoesOn c.args.run.now c.args.whose (hart_at c.args.hart.now c.args.memory.now c.args.clock) n
    (hart_at c.loop-step.hart c.loop-step.memory c.loop-step.reached)) (omega (arith, so_far.0)) so_far.1

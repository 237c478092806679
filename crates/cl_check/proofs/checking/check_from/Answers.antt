use Rattle.std.proofs.Common.{refl, arith, length}
use Rattle.std.proofs.lemmas.Option.{slice_get_read}
use Rattle.cl_replay.proofs.Orders.{order_more}
use Rattle.cl_replay.proofs.Runs.{reached_more}
use Rattle.cl_check.proofs.Verdicts.{good_at_end, no_step, so_far, step_there, too_early}
use Rattle.cl_check.proofs.checking.check_from.Goals as goal

pub loop-n-init : goal.loop-n-init
loop-n-init c = (λ image start. (start, tt), omega (arith))

pub returns-then-not-comes_next : goal.returns-then-not-comes_next
returns-then-not-comes_next c = λ image start.
    let steps = c.args.steps.now in
    let n = c.loop-n.n in
    let here = step_there steps n c.loop-n-test.true in
    let so = c.loop-n.invariant.0 image start in (
      c.loop-n-test.true,
      so_far image steps n c.loop-n.state so.0 so.1 here.0 here.1,
      too_early image steps n c.loop-n.state so.0 so.1 here.0 here.1
          (λ after. let comes = (c.comes_next.ensures here.0 here.1).1 after in absurd (cc)),
    )

pub returns-in-Err-NotAStep : goal.returns-in-Err-NotAStep
returns-in-Err-NotAStep c = λ image start.
    let steps = c.args.steps.now in
    let n = c.loop-n.n in
    let e = c.index-steps-n.result in
    let there = slice_get_read steps (length steps) n e refl c.loop-n-test.true c.index-steps-n.is in
    let so = c.loop-n.invariant.0 image start in (
      c.loop-n-test.true,
      so_far image steps n c.loop-n.state so.0 so.1 e there,
      no_step image steps n c.loop-n.state so.0 so.1 e there
          (rw c.in-Err-NotAStep.field-0-is at c.in-Err-NotAStep.ensures.fault),
    )

pub loop-n-preserved : goal.loop-n-preserved
loop-n-preserved c =
    let steps = c.args.steps.now in
    let n = c.loop-n.n in
    let e = c.index-steps-n.result in
    let there = slice_get_read steps (length steps) n e refl c.loop-n-test.true c.index-steps-n.is in
    let leads = c.in-Ok.ensures.leads in (
      λ image start.
          let so = c.loop-n.invariant.0 image start in
          let reached = reached_more image steps n c.loop-n.state so.0 e there c.step.new.self leads in (
            c.go_on-n.ensures.leads image reached,
            c.go_on-n.ensures.order image reached
                (order_more image steps n c.loop-n.state so.0 so.1 e there c.step.new.self leads
                ((c.comes_next.ensures e there).0 c.if-not-comes_next.false)),
          ),
      omega (arith, c.go_on-n.ensures.within),
    )

pub returns : goal.returns
returns c = λ image start.
    let so = c.loop-n.invariant.0 image start in
    good_at_end image c.args.steps.now c.loop-n.n c.loop-n.state (omega arith) so.0 so.1

use Rattle.std.proofs.Common.{◌≡◌, arith, subst, Ok, sym, ◌∙◌}
use Rattle.std.proofs.lemmas.Result.{err_from_is_err_and}
use Rattle.rv_image_types.specs.declared.images.ImageParts.{ImageParts}
use Rattle.cl_text.specs.Reading.{step_at, steps_counted}
use Rattle.cl_text.specs.ReadingAnswers.{IsFaultOf}
use Rattle.cl_check.specs.Texts.{HaveRun}
use Rattle.cl_check.proofs.Taken.{checked_further, counted_bad, counted_behind, counted_done, counted_fails, good_found}
use Rattle.cl_check.proofs.Taken.{is_told, one_longer, with_step}
use Rattle.cl_check.proofs.texts.check_steps.Goals as goal

pub returns-in_err-step : goal.returns-in_err-step
returns-in_err-step c =
    let o = c.args.opened.now in
    let l = c.loop-done in
    let p = err_from_is_err_and c.from_residual.result c.from_residual.ensures.1 in
    rw (p.1, p.2)
    (counted_fails o.total o.image o.count o.steps.now l.done l.last l.rest.now l.state l.invariant c.in_err-step.field-0.0
    c.loop-done-test.true
    (subst (λ (i : ImageParts). IsFaultOf (step_at o.total i l.done l.rest.now) c.in_err-step.field-0.0)
    c.parts-image.ensures.parts c.in_err-step.ensures))

pub returns-in_err-read_out : goal.returns-in_err-read_out
returns-in_err-read_out c =
    let o = c.args.opened.now in
    let l = c.loop-done in
    let step = c.in_ok-step.step in
    let after = c.in_ok-step.after.now in
    let fault = c.in_err-read_out.field-0.0 in
    let p = err_from_is_err_and c.from_residual-in_err-read_out.result c.from_residual-in_err-read_out.ensures.1 in
    let goes = subst (λ (i : ImageParts). step_at o.total i l.done l.rest.now ≡ Ok (step, after)) c.parts-image.ensures.parts
    c.in_ok-step.ensures in
    rw (p.1, p.2)
    (subst (λ read. IsFaultOf read fault)
    (sym (counted_behind o.total o.image o.count o.steps.now l.done l.last l.rest.now l.state l.invariant step after
    c.loop-done-test.true goes))
    (c.in_err-read_out.ensures
    (with_step o.total o.image o.count o.steps.now l.done l.last l.rest.now l.state l.invariant step after
    c.loop-done-test.true goes)
    (one_longer o.total o.image o.count o.steps.now l.done l.last l.rest.now l.state l.invariant step after
    c.loop-done-test.true goes)))

pub returns-then-not-good : goal.returns-then-not-good
returns-then-not-good c =
    let o = c.args.opened.now in
    let l = c.loop-done in
    let step = c.in_ok-step.step in
    let after = c.in_ok-step.after.now in
    let goes = subst (λ (i : ImageParts). step_at o.total i l.done l.rest.now ≡ Ok (step, after)) c.parts-image.ensures.parts
    c.in_ok-step.ensures in
    let rest = c.in_ok-read_out.ensures
    (with_step o.total o.image o.count o.steps.now l.done l.last l.rest.now l.state l.invariant step after
    c.loop-done-test.true goes)
    (one_longer o.total o.image o.count o.steps.now l.done l.last l.rest.now l.state l.invariant step after
    c.loop-done-test.true goes) in
    counted_bad o.total o.image o.count o.steps.now l.done l.last l.rest.now l.state l.invariant step after
    c.loop-done-test.true goes (c.in_ok-good.ensures.bad c.if-not-good.true) rest.0 rest.1 rest.2

pub loop-done-preserved : goal.loop-done-preserved
loop-done-preserved c =
    let o = c.args.opened.now in
    let l = c.loop-done in
    let step = c.in_ok-step.step in
    let after = c.in_ok-step.after.now in
    let gone = c.go_on-gone in
    let goes = subst (λ (i : ImageParts). step_at o.total i l.done l.rest.now ≡ Ok (step, after)) c.parts-image.ensures.parts
    c.in_ok-step.ensures in
    checked_further o.total o.image o.count o.steps.now l.done l.last l.rest.now l.state l.invariant step after
    c.loop-done-test.true goes c.do_next.new.state gone.new.state c.front_of-front.result gone.result
    (c.in_ok-good.ensures.good c.if-not-good.false) c.front_of-front.ensures
    (subst (λ (i : ImageParts). HaveRun i c.front_of-front.result c.do_next.new.state after gone.result gone.new.state)
    c.parts-image.ensures.parts gone.ensures.runs) gone.ensures.within

pub returns-in_err-close : goal.returns-in_err-close
returns-in_err-close c =
    let o = c.args.opened.now in
    let l = c.loop-done in
    let fault = c.in_err-close.field-0.0 in
    let p = err_from_is_err_and c.from_residual-in_err-close.result c.from_residual-in_err-close.ensures.1 in
    rw (p.1, p.2)
    (is_told (steps_counted o.total o.image o.count o.steps.now) fault
    (counted_done o.total o.image o.count o.steps.now l.done l.last l.rest.now l.state l.invariant
    (omega (arith, c.loop-done-test.false))
    ∙ c.in_err-close.ensures l.invariant.done))

pub returns : goal.returns
returns c =
    let o = c.args.opened.now in
    let l = c.loop-done in (
      o.image,
      l.invariant.done,
      counted_done o.total o.image o.count o.steps.now l.done l.last l.rest.now l.state l.invariant
          (omega (arith, c.loop-done-test.false))
          ∙ c.in_ok-close.ensures l.invariant.done,
      omega (arith, l.invariant.number, l.invariant.within, c.loop-done-test.false),
      good_found o.image l.invariant.done l.state l.invariant.after,
    )

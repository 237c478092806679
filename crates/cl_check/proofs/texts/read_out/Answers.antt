use Rattle.std.proofs.Common.{◌≡◌, ◌++◌, ◌∷◌, [], Ok, ap, arith, subst, sym, ◌∙◌}
use Rattle.std.proofs.lemmas.List.{length-append, length_push}
use Rattle.std.proofs.lemmas.Result.{err_from_is_err_and}
use Rattle.rv_image_types.specs.declared.images.ImageParts.{ImageParts}
use Rattle.cl_text.specs.Reading.{step_at}
use Rattle.cl_text.specs.ReadingAnswers.{IsFaultOf, read_on}
use Rattle.cl_check.proofs.Taken.{append-append, out_closed, out_fails_on, out_more}
use Rattle.cl_check.proofs.texts.read_out.Goals as goal

pub returns-in_err-after : goal.returns-in_err-after
returns-in_err-after c = λ done number.
    let o = c.args.opened.now in
    let so_far = c.loop-done.invariant in
    let p = err_from_is_err_and c.from_residual.result c.from_residual.ensures.1 in
    rw (p.1, p.2)
    (out_fails_on c.in_err-after.field-0.0 o.total o.count o.image (done ++ so_far.more) c.loop-done.rest.now c.loop-done.done
    (omega (arith, length-append done so_far.more, number, so_far.number)) c.loop-done-test.true
    (subst (λ (i : ImageParts). IsFaultOf (step_at o.total i c.loop-done.done c.loop-done.rest.now) c.in_err-after.field-0.0)
    c.parts-image.ensures.parts c.in_err-after.ensures) _
    (so_far.same done number))

pub loop-done-preserved : goal.loop-done-preserved
loop-done-preserved c =
    let o = c.args.opened.now in
    let so_far = c.loop-done.invariant in
    let step = c.in_ok-after.field-0-0 in
    let after = c.in_ok-after.after.now in
    record {
      within = omega (arith, c.loop-done-test.true);
      more = so_far.more ++ step ∷ [];
      number = omega (arith, length_push so_far.more step, so_far.number);
      same = λ done number.
          ap (λ es. read_on o.total o.image o.count es after) (sym (append-append done so_far.more (step ∷ [])))
          ∙ out_more o.total o.count o.image (done ++ so_far.more) c.loop-done.rest.now after step c.loop-done.done
          (omega (arith, length-append done so_far.more, number, so_far.number)) c.loop-done-test.true
          (subst (λ (i : ImageParts). step_at o.total i c.loop-done.done c.loop-done.rest.now ≡ Ok (step, after))
          c.parts-image.ensures.parts c.in_ok-after.ensures)
          ∙ so_far.same done number;
    }

pub returns : goal.returns
returns c = λ done number.
    let o = c.args.opened.now in
    let so_far = c.loop-done.invariant in
    out_closed c.close.result o.total o.count o.image done so_far.more c.args.bytes.now c.loop-done.rest.now
    (omega (arith, length-append done so_far.more, number, so_far.number, so_far.within, c.loop-done-test.false))
    (so_far.same done number) (c.close.ensures (done ++ so_far.more))

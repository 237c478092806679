-- A fault of the header is what is read; behind a header that passes its tests, what is read is what the body is read as.
use Rattle.std.proofs.Common.{◌≡◌, Err, refl, sym, ◌∙◌}
use Rattle.std.proofs.lemmas.Result.{err_from_is_err_and}
use Rattle.rv_image.specs.Reading.{reading}
use Rattle.rv_image.proofs.Loop.{told, read_has_no_fault}
use Rattle.rv_image.proofs.reading.parts_of.Goals as goal

pub returns-in-Some-clause-exact : goal.returns-in-Some-clause-exact
unfolding reading
returns-in-Some-clause-exact c = told c.in-Some.fault _ (rw (← c.in-Some.ensures.fault) refl)

pub returns-in-Some-clause-fault : goal.returns-in-Some-clause-fault
unfolding reading
returns-in-Some-clause-fault c =
    let read : reading c.args.bytes.now ≡ Err c.in-Some.fault = rw (← c.in-Some.ensures.fault) refl in
    λ fault e. sym read ∙ e

pub returns-in_err-test_body-clause-exact : goal.returns-in_err-test_body-clause-exact
unfolding reading
returns-in_err-test_body-clause-exact c =
    let p = err_from_is_err_and c.from_residual.result c.from_residual.ensures.1 in
    let read : reading c.args.bytes.now ≡ Err c.in_err-test_body.field-0.0 = rw (← c.in_default.ensures.fault, ← c.header_of-header.ensures, ← c.split_at.ensures.back) c.in_err-test_body.ensures in
    rw (p.1, p.2) (told c.in_err-test_body.field-0.0 _ read)

pub returns-in_err-test_body-clause-fault : goal.returns-in_err-test_body-clause-fault
unfolding reading
returns-in_err-test_body-clause-fault c =
    let p = err_from_is_err_and c.from_residual.result c.from_residual.ensures.1 in
    let read : reading c.args.bytes.now ≡ Err c.in_err-test_body.field-0.0 = rw (← c.in_default.ensures.fault, ← c.header_of-header.ensures, ← c.split_at.ensures.back) c.in_err-test_body.ensures in
    λ fault e. rw (p.1, p.2) (sym read ∙ e)

pub returns-clause-exact : goal.returns-clause-exact
unfolding reading
returns-clause-exact c = rw (← c.in_default.ensures.fault, ← c.header_of-header.ensures, ← c.split_at.ensures.back) c.take_body.ensures

pub returns-clause-fault : goal.returns-clause-fault
unfolding reading
returns-clause-fault c = λ fault e.
    read_has_no_fault _ fault c.in_ok-test_body.ensures (rw (← c.in_default.ensures.fault, ← c.header_of-header.ensures, ← c.split_at.ensures.back) at e)

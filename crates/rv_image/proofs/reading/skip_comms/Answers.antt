-- The communicators are read as `repeated` says: a fault at a turn, one more communicator, the last one.
use Rattle.std.proofs.Common.{◌≡◌, ◌+◌, ◌<◌, ◌≤◌, ◌++◌, ◌∷◌, [], refl, Ok, Err, length, length-append, arith}
use Rattle.std.proofs.lemmas.Result.{err_from_is_err_and}
use Rattle.rv_image.specs.Reading.{repeated, next_comm}
use Rattle.rv_image.proofs.Loop.{step_stops, step_goes, steps_done}
use Rattle.rv_image.proofs.reading.skip_comms.Goals as goal

pub returns-in_err-after : goal.returns-in_err-after
returns-in_err-after c =
    let a = c.args in
    let loop = c.loop-before in
    let so_far = loop.invariant in
    let p = err_from_is_err_and c.from_residual.result c.from_residual.ensures.1 in
    let step = next_comm a.total a.ranks in
    let fault = c.in_err-after.field-0.0 in
    let more : loop.before < a.count = omega (arith, c.loop-before-test.true, c.from-before-end.ensures) in
    let fails : step so_far.0 loop.rest.now ≡ Err fault = rw (so_far.1, c.in_err-after.ensures) refl in
    let all : repeated step a.count [] a.bytes.now ≡ Err fault = step_stops fault step a.count loop.before so_far.0 loop.rest.now (repeated step a.count [] a.bytes.now) more fails so_far.2 in
    rw (p.1, p.2, all) refl

pub loop-before-preserved : goal.loop-before-preserved
loop-before-preserved c =
    let a = c.args in
    let loop = c.loop-before in
    let so_far = loop.invariant in
    let step = next_comm a.total a.ranks in
    let then = so_far.0 ++ c.in_ok-after.field-0-0.now ∷ [] in
    let more : loop.before < a.count = omega (arith, c.loop-before-test.true, c.from-before-end.ensures) in
    let goes : step so_far.0 loop.rest.now ≡ Ok (then, c.in_ok-after.after.now) = rw (so_far.1, c.in_ok-after.ensures) refl in
    let number : length then ≡ loop.before + 1 = rw (length-append, so_far.1) refl in
    (then, number, step_goes step a.count loop.before so_far.0 loop.rest.now then c.in_ok-after.after.now (repeated step a.count [] a.bytes.now) more goes so_far.2)

pub returns : goal.returns
returns c =
    let a = c.args in
    let loop = c.loop-before in
    let so_far = loop.invariant in
    let step = next_comm a.total a.ranks in
    let last : a.count ≤ loop.before = omega (arith, c.loop-before-test.false, c.from-before-end.ensures) in
    let all : repeated step a.count [] a.bytes.now ≡ Ok (so_far.0, loop.rest.now) = steps_done step a.count loop.before so_far.0 loop.rest.now (repeated step a.count [] a.bytes.now) last so_far.2 in
    rw all refl

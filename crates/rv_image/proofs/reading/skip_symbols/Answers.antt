-- The symbols are read as `repeated` says: a fault at a turn, one more symbol, the last one.
use Rattle.std.proofs.Common.{◌≡◌, ◌+◌, ◌<◌, ◌≤◌, ◌++◌, ◌∷◌, [], refl, Ok, Err, length, length-append, arith}
use Rattle.std.proofs.lemmas.Result.{err_from_is_err_and}
use Rattle.rv_image_types.specs.declared.images.Symbol.{Symbol}
use Rattle.rv_image.specs.Reading.{repeated, next_symbol}
use Rattle.rv_image.proofs.Loop.{step_stops, step_goes, steps_done}
use Rattle.rv_image.proofs.Rising.{last_name-push}
use Rattle.rv_image.proofs.reading.skip_symbols.Goals as goal

pub returns-in_err-name : goal.returns-in_err-name
returns-in_err-name c =
    let a = c.args in
    let loop = c.loop-n in
    let so_far = loop.invariant in
    let p = err_from_is_err_and c.from_residual.result c.from_residual.ensures.1 in
    let step = next_symbol a.total a.memory in
    let fault = c.in_err-name.field-0.0 in
    let more : loop.n < a.count = omega (arith, c.loop-n-test.true, c.from-n-end.ensures) in
    let fails : step so_far.0 loop.rest.now ≡ Err fault = rw (so_far.1, so_far.2, c.in_err-name.ensures) refl in
    let all : repeated step a.count [] a.bytes.now ≡ Err fault = step_stops fault step a.count loop.n so_far.0 loop.rest.now (repeated step a.count [] a.bytes.now) more fails so_far.3 in
    rw (p.1, p.2, all) refl

pub loop-n-preserved : goal.loop-n-preserved
loop-n-preserved c =
    let a = c.args in
    let loop = c.loop-n in
    let so_far = loop.invariant in
    let step = next_symbol a.total a.memory in
    let symbol : Symbol = record { name = c.in_ok-name.name.now; address = c.in_ok-name.field-0-1 } in
    let then = so_far.0 ++ symbol ∷ [] in
    let more : loop.n < a.count = omega (arith, c.loop-n-test.true, c.from-n-end.ensures) in
    let goes : step so_far.0 loop.rest.now ≡ Ok (then, c.in_ok-name.after.now) = rw (so_far.1, so_far.2, c.in_ok-name.ensures) refl in
    let number : length then ≡ loop.n + 1 = rw (length-append, so_far.1) refl in
    (then, number, last_name-push so_far.0 symbol, step_goes step a.count loop.n so_far.0 loop.rest.now then c.in_ok-name.after.now (repeated step a.count [] a.bytes.now) more goes so_far.3)

pub returns : goal.returns
returns c =
    let a = c.args in
    let loop = c.loop-n in
    let so_far = loop.invariant in
    let step = next_symbol a.total a.memory in
    let last : a.count ≤ loop.n = omega (arith, c.loop-n-test.false, c.from-n-end.ensures) in
    let all : repeated step a.count [] a.bytes.now ≡ Ok (so_far.0, loop.rest.now) = steps_done step a.count loop.n so_far.0 loop.rest.now (repeated step a.count [] a.bytes.now) last so_far.3 in
    rw all refl

-- The symbols are read as `repeated` says: a fault at a turn, one more symbol, the last one.
use Rattle.std.proofs.Common.{◌≡◌, ◌++◌, ◌∷◌, [], refl, Ok, Err, length, arith}
use Rattle.std.proofs.lemmas.Result.{err_from_is_err_and}
use Rattle.rv_image_types.specs.declared.images.Symbol.{Symbol}
use Rattle.rv_image.specs.Reading.{repeated, next_symbol}
use Rattle.rv_image.proofs.Loop.{told, step_stops, step_goes, steps_done}
use Rattle.rv_image.proofs.Rising.{last_name-push}
use Rattle.rv_image.proofs.reading.take_symbols.Goals as goal

pub returns-in_err-name : goal.returns-in_err-name
returns-in_err-name c =
    let a = c.args in
    let p = err_from_is_err_and c.from_residual.result c.from_residual.ensures.1 in
    let step = next_symbol a.total a.memory in
    let done = c.loop.done.items in
    let fault = c.in_err-name.field-0.0 in
    let number : length done ≡ c.len.result = omega (arith, c.loop.done.ok.0, c.len.ensures) in
    let fails : step done c.loop.rest.now ≡ Err fault = rw (number, c.loop.invariant.last, c.in_err-name.ensures) refl in
    rw (p.1, p.2) (told fault _ (step_stops fault step a.count c.loop.counter done c.loop.rest.now (repeated step a.count [] a.bytes.now) c.loop-test.true fails c.loop.invariant.same))

pub loop-preserved : goal.loop-preserved
loop-preserved c =
    let a = c.args in
    let step = next_symbol a.total a.memory in
    let done = c.loop.done.items in
    let symbol : Symbol = record { name = c.in_ok-name.name.now; address = c.in_ok-name.address } in
    let then = done ++ symbol ∷ [] in
    let number : length done ≡ c.len.result = omega (arith, c.loop.done.ok.0, c.len.ensures) in
    let goes : step done c.loop.rest.now ≡ Ok (then, c.in_ok-name.after.now) = rw (number, c.loop.invariant.last, c.in_ok-name.ensures) refl in
    record {
      last = rw c.in_ok-push_symbol.ensures (last_name-push done symbol);
      same = rw c.in_ok-push_symbol.ensures (step_goes step a.count c.loop.counter done c.loop.rest.now then c.in_ok-name.after.now (repeated step a.count [] a.bytes.now) c.loop-test.true goes c.loop.invariant.same);
    }

pub returns : goal.returns
returns c = let a = c.args in steps_done (next_symbol a.total a.memory) a.count c.loop.counter c.loop.done.items c.loop.rest.now (repeated (next_symbol a.total a.memory) a.count [] a.bytes.now) c.loop-test.false c.loop.invariant.same

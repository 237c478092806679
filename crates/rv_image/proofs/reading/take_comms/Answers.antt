-- The communicators are read as `repeated` says: a fault at a turn, one more communicator, the last one.
use Rattle.std.proofs.Common.{◌≡◌, ◌++◌, ◌∷◌, [], refl, Ok, Err, length, arith}
use Rattle.std.proofs.lemmas.Result.{err_from_is_err_and}
use Rattle.rv_image.specs.Reading.{repeated, next_comm}
use Rattle.rv_image.proofs.Loop.{told, step_stops, step_goes, steps_done}
use Rattle.rv_image.proofs.reading.take_comms.Goals as goal

pub returns-in_err-members : goal.returns-in_err-members
returns-in_err-members c =
    let a = c.args in
    let p = err_from_is_err_and c.from_residual.result c.from_residual.ensures.1 in
    let step = next_comm a.total a.ranks in
    let done = c.loop.done.items in
    let fault = c.in_err-members.field-0.0 in
    let number : length done ≡ c.len.result = omega (arith, c.loop.done.ok.0, c.len.ensures) in
    let fails : step done c.loop.rest.now ≡ Err fault = rw (number, c.in_err-members.ensures) refl in
    rw (p.1, p.2) (told fault _ (step_stops fault step a.count c.loop.counter done c.loop.rest.now (repeated step a.count [] a.bytes.now) c.loop-test.true fails c.loop.invariant))

pub loop-preserved : goal.loop-preserved
loop-preserved c =
    let a = c.args in
    let step = next_comm a.total a.ranks in
    let done = c.loop.done.items in
    let members = c.in_ok-members.members.now in
    let number : length done ≡ c.len.result = omega (arith, c.loop.done.ok.0, c.len.ensures) in
    let goes : step done c.loop.rest.now ≡ Ok (done ++ members ∷ [], c.in_ok-members.after.now) = rw (number, c.in_ok-members.ensures) refl in
    rw c.in_ok-push_members.ensures (step_goes step a.count c.loop.counter done c.loop.rest.now (done ++ members ∷ []) c.in_ok-members.after.now (repeated step a.count [] a.bytes.now) c.loop-test.true goes c.loop.invariant)

pub returns : goal.returns
returns c = let a = c.args in steps_done (next_comm a.total a.ranks) a.count c.loop.counter c.loop.done.items c.loop.rest.now (repeated (next_comm a.total a.ranks) a.count [] a.bytes.now) c.loop-test.false c.loop.invariant

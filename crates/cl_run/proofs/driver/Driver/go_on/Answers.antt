use Rattle.std.proofs.Common.{◌≡◌, ◌<◌, ◌∙◌, All, None, ap, arith, length, refl, subst, sym}
use Rattle.std.proofs.lemmas.Option.{same_Some, slice_get_read}
use Rattle.std.specs.Vec.{with_item}
use Rattle.cl_record.specs.declared.seats.Seat.{Seat}
use Rattle.cl_run.proofs.Alone.{alone_rounds}
use Rattle.cl_run.proofs.Going.{no_rounds}
use Rattle.cl_run.proofs.Seats.{no_stop}
use Rattle.cl_run.proofs.driver.Driver.go_on.Goals as goal

pub returns-then-order-ne1 : goal.returns-then-order-ne1
returns-then-order-ne1 c = no_rounds c.args.order.now c.args.self.now c.requires.joined

pub returns : goal.returns
returns c =
    let driver = c.args.self.now in
    let seats = driver.seats in
    let seat = c.index_mut.result.now in
    let later = c.run_plain.new.self in
    let one : length seats.items ≡ 1 = omega (arith, c.if-len-ne1.false, c.len.ensures, seats.ok.0) in
    let first : 0 < seats.len = omega (arith, one, seats.ok.0) in
    let at = slice_get_read seats.items _ 0 seat seats.ok.0 first c.index_mut.ensures.value in
    let looked = slice_get_read seats.items _ 0 c.index.result.now seats.ok.0 first c.index.ensures in
    let same : c.index.result.now ≡ seat = same_Some _ _ (sym looked ∙ at) in
    let runs : seat.stop ≡ None =
    ap (λ (s : Seat). s.stop) (sym same)
    ∙ no_stop c.index.result.now.stop (sym c.is_some.ensures ∙ c.if-is_some.false) in
    alone_rounds driver (with_item seats 0 later) seat later c.run_plain.result one at runs c.run_plain.ensures.turns
    c.run_plain.ensures.plan c.run_plain.ensures.channels refl c.args.order.now c.if-order-ne1.false
    (subst (λ n. All (λ r. r < n) c.args.order.now) seats.ok.0 c.requires.there) c.requires.joined refl

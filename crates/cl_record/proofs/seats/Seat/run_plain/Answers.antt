use Rattle.std.proofs.Common.{◌≡◌, arith, length}
use Rattle.std.proofs.lemmas.List.{get_or_read}
use Rattle.cl_rank.specs.Views.{view_of}
use Rattle.cl_record.proofs.Plains.{one_place, plain_turns}
use Rattle.cl_record.proofs.seats.Seat.run_plain.Goals as goal

pub returns-clause-turns : goal.returns-clause-turns
returns-clause-turns c =
    let seat = c.args.self.now in
    let plan = seat.plan.now in
    let order = plan.order in
    let ranked = c.run_plain.ensures in
    let hart = get_or_read order.items seat.next c.index-hart.result.now seat.next_there c.index-hart.ensures 0 in
    let one : length order.items ≡ 1 = omega (arith, c.if-len-ne1.false, c.len.ensures, order.ok.0) in
    plain_turns plan seat.next seat.rank.budget seat.stop c.requires.running
    (one_place seat.next (length order.items) seat.next_there one) c.index-hart.result.now c.run_plain.result
    c.run_plain.new.self.budget (view_of seat.rank) (view_of c.run_plain.new.self) hart ranked.budget ranked.left
    ranked.turns

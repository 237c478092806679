use Rattle.std.proofs.Common.{arith}
use Rattle.mp_alike.proofs.Ordered.{keeps_one}
use Rattle.mp_alike.proofs.posts.keeps_send.Goals as goal

pub returns-in-Some : goal.returns-in-Some
returns-in-Some c =
    keeps_one c.args.to.now c.args.lines.now c.args.place c.args.behind c.args.s.now c.in-Some.t c.are_in_order.result
    (omega arith) c.in-Some.ensures.some c.are_in_order.ensures

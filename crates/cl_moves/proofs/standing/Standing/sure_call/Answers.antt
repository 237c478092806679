use Rattle.cl_moves.proofs.Surely.{told_call}
use Rattle.cl_moves.proofs.standing.Standing.sure_call.Goals as goal

pub returns : goal.returns
returns c =
    told_call c.args.self.now c.args.whose c.args.request.now c.in_ok-turns.turns.items c.pop.new.self.items
    c.in-Some.turn c.in_ok-turns.ensures.own c.in_ok-turns.ensures.turn c.in-Some.ensures.items c.if_ready.result
    c.if_ready.ensures

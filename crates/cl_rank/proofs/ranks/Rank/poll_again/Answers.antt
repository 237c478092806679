use Rattle.std.proofs.Common.{refl}
use Rattle.cl_rank.proofs.Ends.{call_ends, worked_behind}
use Rattle.cl_rank.proofs.ranks.Rank.poll_again.Goals as goal

pub returns-in_default-NotYet-default : goal.returns-in_default-NotYet-default
returns-in_default-NotYet-default g c = λ channels own.
    let told = c.in_ok-request.field-0 in
    call_ends g.D.Desk.gives c.args.hart c.args.self.now channels told.0 told.1 _ told.2 _ c.args.desk.now
    c.ask_hub.new.desk c.requires.active c.requires.may.has own c.wait_on.ensures c.in_default-NotYet-default.is-1
    c.in_ok-request.ensures.gives

pub returns-in_default : goal.returns-in_default
returns-in_default g c = λ channels own.
    let told = c.in_ok-request.field-0 in
    call_ends g.D.Desk.gives c.args.hart c.args.self.now channels told.0 told.1 _ told.2 _ c.args.desk.now
    c.ask_hub.new.desk c.requires.active c.requires.may.has own
    (worked_behind told.0 told.1 told.2 c.work_out-turn.ensures.same c.work_out-turn.ensures.hart c.tell_reply.ensures)
    refl c.in_ok-request.ensures.gives

use Rattle.std.proofs.Common.{refl}
use Rattle.cl_rank.proofs.Ends.{call_ends}
use Rattle.cl_rank.proofs.ranks.Rank.call_hub.Goals as goal

pub returns-in-NotYet : goal.returns-in-NotYet
returns-in-NotYet g c = λ channels own.
    call_ends g.D.Desk.gives c.args.turn.now.hart c.args.self.now channels c.in_ok-request.request c.in_ok-request.reply _
    c.in_ok-request.stamp _ c.args.desk.now c.ask_hub.new.desk c.requires.active c.requires.may.has own c.put_off.ensures
    c.in-NotYet.is c.in_ok-request.ensures.gives

pub returns-in_default : goal.returns-in_default
returns-in_default g c = λ channels own.
    call_ends g.D.Desk.gives c.args.turn.now.hart c.args.self.now channels c.in_ok-request.request c.in_ok-request.reply _
    c.in_ok-request.stamp _ c.args.desk.now c.ask_hub.new.desk c.requires.active c.requires.may.has own
    c.tell_reply.ensures refl c.in_ok-request.ensures.gives

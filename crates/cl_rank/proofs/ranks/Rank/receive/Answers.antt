use Rattle.std.proofs.Common.{◌∙◌, Ok, refl, subst, sym}
use Rattle.mp_types.specs.declared.requests.Request.{Request}
use Rattle.cl_rank.proofs.Ends.{call_ends, worked_behind}
use Rattle.cl_rank.proofs.ranks.Rank.receive.Goals as goal

pub returns-then-fits : goal.returns-then-fits
returns-then-fits g c = λ channels own.
    let told = c.in-Ok.told in
    let state = c.args.self.now.state in
    call_ends g.D.Desk.gives c.args.hart c.args.self.now channels c.request_of-copy.result told.0 told.0 told.1 c.tell_message.new.self
    c.args.desk.now
    c.call.new.self c.requires.active c.requires.may.has own
    c.tell_message.ensures refl
    (subst (λ (q : Request). g.D.Desk.gives c.args.desk.now state.site.number c.args.hart state.clock q (Ok (told.0, told.1))
    c.call.new.self) (c.request_of-request.ensures ∙ sym c.request_of-copy.ensures) c.in-Ok.ensures.gives)

pub returns-in-Posted : goal.returns-in-Posted
returns-in-Posted g c = λ channels own.
    let told = c.in-Ok.told in
    let state = c.args.self.now.state in
    call_ends g.D.Desk.gives c.args.hart c.args.self.now channels c.request_of-copy.result told.0 _ told.1 c.tell_waiting.new.self
    c.args.desk.now
    c.call.new.self c.requires.active c.requires.may.has own
    c.tell_waiting.ensures c.in-Posted.is
    (subst (λ (q : Request). g.D.Desk.gives c.args.desk.now state.site.number c.args.hart state.clock q (Ok (told.0, told.1))
    c.call.new.self) (c.request_of-request.ensures ∙ sym c.request_of-copy.ensures) c.in-Ok.ensures.gives)

pub returns-in_default : goal.returns-in_default
returns-in_default g c = λ channels own.
    let told = c.in-Ok.told in
    let state = c.args.self.now.state in
    call_ends g.D.Desk.gives c.args.hart c.args.self.now channels c.request_of-copy.result told.0 told.0 told.1 c.tell_reply.new.self
    c.args.desk.now
    c.call.new.self c.requires.active c.requires.may.has own
    (worked_behind c.request_of-copy.result told.0 told.1 c.work_out-turn.ensures.same c.work_out-turn.ensures.hart
    c.tell_reply.ensures) refl
    (subst (λ (q : Request). g.D.Desk.gives c.args.desk.now state.site.number c.args.hart state.clock q (Ok (told.0, told.1))
    c.call.new.self) (c.request_of-request.ensures ∙ sym c.request_of-copy.ensures) c.in-Ok.ensures.gives)

use Rattle.std.proofs.Common.{◌∙◌, refl, ap}
use Rattle.cl_trace.specs.declared.events.Event.{Event}
use Rattle.cl_rank.specs.Views.{place_in}
use Rattle.cl_rank.proofs.Replied.{called_event, may_follow_receiver, may_follow_sender, went_reply}
use Rattle.cl_rank.proofs.Went.{keeps, leaves, no_room}
use Rattle.cl_rank.proofs.ranks.Rank.tell_reply.Goals as goal

pub follow_sender-requires : goal.follow_sender-requires
follow_sender-requires c =
    may_follow_sender c.args.self.now c.tell_row.new.self c.args.turn.now.hart c.args.stamp c.args.reply c.requires.asked
    c.tell_row.ensures.told c.named_link-link.ensures c.sending-sending.ensures.phase c.sending.ensures.phase

pub follow_receiver-requires : goal.follow_receiver-requires
follow_receiver-requires c =
    may_follow_receiver c.args.self.now c.tell_row.new.self c.args.turn.now.hart c.args.stamp c.args.reply c.requires.asked
    c.tell_row.ensures.told c.named_link-link.ensures c.receiving-receiving.ensures.phase c.receiving.ensures.phase

pub invariant_of-self : goal.invariant_of-self
invariant_of-self c =
    let went = went_reply c.args.self.now c.tell_row.new.self c.args.turn.now.hart c.args.stamp c.args.reply c.requires.asked
    c.tell_row.ensures.told c.named_link-link.ensures c.requires.may.has.there c.requires.stamp
    c.sending-sending.ensures.phase c.sending.ensures.phase c.receiving-receiving.ensures.phase
    c.receiving.ensures.phase c.follow_sender.ensures c.follow_receiver.ensures in
    keeps went c.note.new.roomy c.args.self.now.again _ c.requires.may.has.left (ap (λ (e : Event). e.stamp) c.called-noted.ensures.event)
    c.note.ensures.event
    (no_room c.tell_row.new.self c.args.self.now.again (c.note.ensures.waits ∙ c.called-noted.ensures.waits))

pub returns : goal.returns
returns c =
    let went = went_reply c.args.self.now c.tell_row.new.self c.args.turn.now.hart c.args.stamp c.args.reply c.requires.asked
    c.tell_row.ensures.told c.named_link-link.ensures c.requires.may.has.there c.requires.stamp
    c.sending-sending.ensures.phase c.sending.ensures.phase c.receiving-receiving.ensures.phase
    c.receiving.ensures.phase c.follow_sender.ensures c.follow_receiver.ensures in
    leaves went (called_event _ _ _ _ _ c.into_reply.ensures c.called-noted.ensures.event c.note.ensures.event)
    (ap place_in (c.note.ensures.place ∙ c.called-noted.ensures.place)) refl
    c.tell_row.ensures.harts

use Rattle.std.proofs.Common.{◌∙◌, sym, ap, subst, map}
use Rattle.std.proofs.lemmas.Option.{slice_get_within}
use Rattle.rv_image_types.specs.declared.images.Link.{Link}
use Rattle.part_channel.specs.Channels.{receiver_box, sender_box}
use Rattle.part_channel.specs.Receiving.{RecvView}
use Rattle.part_channel.specs.Sending.{SendView}
use Rattle.part_channel.specs.Settling.{IsLeft}
use Rattle.cl_record.proofs.Sides.{all_kept, receiver_is, receiver_there, sender_is, sender_there}
use Rattle.cl_record.proofs.settling.settle_link.Goals as goal

none : Link
none = record { from = 0; to = 0 }

pub bounds-links-number : goal.bounds-links-number
bounds-links-number c = slice_get_within c.args.links.now c.args.number c.requires.l c.requires.link_there

pub take_sender-send-requires : goal.take_sender-send-requires
unfolding none
take_sender-send-requires c =
    let ends = c.args.ends.now.items in
    sender_there c.args.links.now ends ends c.args.number c.args.channel c.requires none

-- the receiver's side is there behind the taking of the sender's
pub take_receiver-recv-requires : goal.take_receiver-recv-requires
unfolding none
take_receiver-recv-requires c =
    let ends = c.args.ends.now.items in
    receiver_there c.args.links.now ends c.take_sender-send.new.ends.items c.args.number c.args.channel c.requires _
    (c.take_sender-send.ensures.kept ends (all_kept ends _ _)) none

pub settle-requires-clause-sender : goal.settle-requires-clause-sender
unfolding none
settle-requires-clause-sender c =
    let ends = c.args.ends.now.items in
    let sent = sender_is c.args.links.now ends ends c.args.number c.args.channel c.requires none c.take_sender-send.result
    c.take_sender-send.ensures.side in
    ap (λ (s : SendView). map sender_box s.keys) (sym sent) ∙ c.requires.sends_own

pub settle-requires-clause-receiver : goal.settle-requires-clause-receiver
unfolding none
settle-requires-clause-receiver c =
    let ends = c.args.ends.now.items in
    let received = receiver_is c.args.links.now ends c.take_sender-send.new.ends.items c.args.number c.args.channel
    c.requires _ (c.take_sender-send.ensures.kept ends (all_kept ends _ _)) none c.take_receiver-recv.result
    c.take_receiver-recv.ensures.side in
    ap (λ (r : RecvView). map receiver_box r.keys) (sym received) ∙ c.requires.receives_own

pub returns-clause-left : goal.returns-clause-left
unfolding none
returns-clause-left c =
    let own = c.requires in
    let ends = c.args.ends.now.items in
    let sent = sender_is c.args.links.now ends ends c.args.number c.args.channel own none c.take_sender-send.result
    c.take_sender-send.ensures.side in
    let received = receiver_is c.args.links.now ends c.take_sender-send.new.ends.items c.args.number c.args.channel own _
    (c.take_sender-send.ensures.kept ends (all_kept ends _ _)) none c.take_receiver-recv.result
    c.take_receiver-recv.ensures.side in
    let width = c.args.channel.width in (
      own,
      subst (λ (s : SendView). IsLeft width s.keys own.receives.keys c.settle.result) (sym sent)
          (subst (λ (r : RecvView). IsLeft width c.take_sender-send.result.keys r.keys c.settle.result) (sym received)
          c.settle.ensures.settled),
    )

pub returns-clause-kept : goal.returns-clause-kept
returns-clause-kept c = λ were kept.
    c.take_receiver-recv.ensures.kept were (c.take_sender-send.ensures.kept were kept)

use Rattle.std.proofs.Common.{◌<◌, subst, sym}
use Rattle.cl_sides.proofs.Found.{not_missing, place_within}
use Rattle.cl_rank.proofs.Pairs.{agreed_so, at_side, channel_there, part_there, receiver_boxes, receiver_here}
use Rattle.cl_rank.proofs.Pairs.{sender_boxes, sender_here}
use Rattle.cl_sides.proofs.Stepped.{at_found}
use Rattle.cl_rank.proofs.agreeing.agree.Goals as goal

pub unreachable-requires : goal.unreachable-requires
unreachable-requires c =
    let here = sender_here _ c.args.place.part c.requires.sends.0 c.requires.sends.1 in
    not_missing c.args.place.link _ c.args.sender.now.sends.items c.find.result c.as_slice.ensures.value c.find.ensures here.0
    c.in_default.is here.1

pub unreachable-requires-in_default-find : goal.unreachable-requires-in_default-find
unreachable-requires-in_default-find c =
    let here = receiver_here _ c.args.place.part c.requires.receives.0 c.requires.receives.1 in
    not_missing c.args.place.link _ c.args.receiver.now.recvs.items c.find-2.result c.as_slice-2.ensures.value
    c.find-2.ensures here.0 c.in_default-find.is here.1

pub index_mut-requires : goal.index_mut-requires
index_mut-requires c =
    subst (λ n. c.in-Some.from < n) (sym c.args.sender.now.sends.ok.0)
    (place_within c.args.place.link _ c.args.sender.now.sends.items c.find.result c.as_slice.ensures.value c.find.ensures
    c.in-Some.from c.in-Some.is)

pub index_mut-requires-2 : goal.index_mut-requires-2
index_mut-requires-2 c =
    subst (λ n. c.in-Some-find.to < n) (sym c.args.receiver.now.recvs.ok.0)
    (place_within c.args.place.link _ c.args.receiver.now.recvs.items c.find-2.result c.as_slice-2.ensures.value
    c.find-2.ensures c.in-Some-find.to c.in-Some-find.is)

pub bounds-channels-place : goal.bounds-channels-place
bounds-channels-place c =
    channel_there c.args.sender.now.state.site.version c.args.channels.now c.args.place.link
    c.args.sender.now.sends.items c.args.sender.now.recvs.items c.index_mut.result.now.1 c.requires.sender
    (at_side c.args.place.link c.args.sender.now.sends.items c.in-Some.from c.index_mut.result.now
    (at_found c.args.place.link c.in-Some.from _ _ c.find.result c.as_slice.ensures.value c.in-Some.is c.find.ensures)
    c.index_mut.ensures.value)

pub agree-requires-clause-sender : goal.agree-requires-clause-sender
agree-requires-clause-sender c =
    sender_boxes c.args.sender.now.state.site.version c.args.channels.now c.args.place.link
    c.args.sender.now.sends.items c.args.sender.now.recvs.items c.index_mut.result.now.1 c.index-channels-place.result
    c.requires.sender
    (at_side c.args.place.link c.args.sender.now.sends.items c.in-Some.from c.index_mut.result.now
    (at_found c.args.place.link c.in-Some.from _ _ c.find.result c.as_slice.ensures.value c.in-Some.is c.find.ensures)
    c.index_mut.ensures.value)
    c.index-channels-place.is

pub agree-requires-clause-receiver : goal.agree-requires-clause-receiver
agree-requires-clause-receiver c =
    receiver_boxes c.args.receiver.now.state.site.version c.args.channels.now c.args.place.link
    c.args.receiver.now.sends.items c.args.receiver.now.recvs.items c.index_mut-2.result.now.1
    c.index-channels-place.result c.requires.receiver
    (at_side c.args.place.link c.args.receiver.now.recvs.items c.in-Some-find.to c.index_mut-2.result.now
    (at_found c.args.place.link c.in-Some-find.to _ _ c.find-2.result c.as_slice-2.ensures.value c.in-Some-find.is
    c.find-2.ensures) c.index_mut-2.ensures.value)
    c.index-channels-place.is

pub agree-requires-clause-there : goal.agree-requires-clause-there
agree-requires-clause-there c =
    part_there _ c.args.place.part c.index_mut.result.now.1 c.requires.sends.0 c.requires.sends.1
    (at_side c.args.place.link c.args.sender.now.sends.items c.in-Some.from c.index_mut.result.now
    (at_found c.args.place.link c.in-Some.from _ _ c.find.result c.as_slice.ensures.value c.in-Some.is c.find.ensures)
    c.index_mut.ensures.value) c.next-sends.ensures.kept.kept.long

pub returns-clause-agreed : goal.returns-clause-agreed
returns-clause-agreed c =
    agreed_so c.args.sender.now.state.site.version c.args.channels.now c.args.place.link c.args.place.part
    c.index-channels-place.result c.index_mut.result.now.1 c.index_mut-2.result.now.1 c.args.sender.now.sends.items
    c.args.sender.now.recvs.items c.args.receiver.now.recvs.items c.requires.sender c.index-channels-place.is
    (at_side c.args.place.link c.args.sender.now.sends.items c.in-Some.from c.index_mut.result.now
    (at_found c.args.place.link c.in-Some.from _ _ c.find.result c.as_slice.ensures.value c.in-Some.is c.find.ensures)
    c.index_mut.ensures.value)
    (at_side c.args.place.link c.args.receiver.now.recvs.items c.in-Some-find.to c.index_mut-2.result.now
    (at_found c.args.place.link c.in-Some-find.to _ _ c.find-2.result c.as_slice-2.ensures.value c.in-Some-find.is
    c.find-2.ensures) c.index_mut-2.ensures.value)
    c.agree.ensures.agreed

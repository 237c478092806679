use Rattle.std.proofs.Common.{◌<◌, subst, sym}
use Rattle.std.specs.Prelude.{IfSome}
use Rattle.cl_sides.specs.Steps.{ReceivingMay, followed_receiver}
use Rattle.cl_sides.proofs.Found.{changed_there, none_there, place_within, side_there}
use Rattle.cl_sides.proofs.steps.follow_receiver.Goals as goal

pub index_mut-requires : goal.index_mut-requires
index_mut-requires c =
    subst (λ n. c.in-Some.at < n) (sym c.args.recvs.now.ok.0)
    (place_within c.args.link _ c.args.recvs.now.items c.find.result c.as_slice.ensures.value c.find.ensures
    c.in-Some.at c.in-Some.is)

pub follow_receiving-requires : goal.follow_receiving-requires
follow_receiving-requires c =
    subst (λ o. IfSome o (ReceivingMay c.args.was c.args.now))
    (side_there c.args.link _ c.args.recvs.now.items c.find.result c.as_slice.ensures.value c.find.ensures
    c.in-Some.at c.index_mut.result.now c.in-Some.is c.index_mut.ensures.value) c.requires

pub returns-in-Some : goal.returns-in-Some
returns-in-Some c =
    changed_there c.args.link _ c.args.recvs.now.items c.find.result c.as_slice.ensures.value c.find.ensures
    (followed_receiver c.args.was c.args.now) c.in-Some.at c.index_mut.result.now c.follow_receiving.new.side c.in-Some.is
    c.index_mut.ensures.value c.follow_receiving.ensures

pub returns-in_default : goal.returns-in_default
returns-in_default c =
    none_there c.args.link _ c.args.recvs.now.items c.find.result c.as_slice.ensures.value c.find.ensures
    (followed_receiver c.args.was c.args.now) c.in_default.is

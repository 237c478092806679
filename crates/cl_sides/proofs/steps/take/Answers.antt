use Rattle.std.proofs.Common.{◌<◌, subst, sym}
use Rattle.std.proofs.lemmas.Option.{slice_get_within}
use Rattle.cl_sides.proofs.Found.{not_missing, place_within}
use Rattle.cl_sides.proofs.Stepped.{at_found, taken_so}
use Rattle.cl_sides.proofs.steps.take.Goals as goal

pub returns : goal.returns
returns c =
    let took = c.in-Ok.ensures.took in
    record {
      taken =
          taken_so c.args.channels.now c.args.place.link c.in-Some.at c.index-channels-place.result
          c.index-channels-place.is c.args.place.part c.args.clock c.args.recvs.now.items c.index_mut.result.now
          c.take.new.self c.in-Ok.take took.0 took.1 c.requires.may
          (at_found c.args.place.link c.in-Some.at _ _ c.find.result c.as_slice.ensures.value c.in-Some.is c.find.ensures)
          c.index_mut.ensures.value c.next-kept.ensures.kept took.2 took.3 took.4 c.in-Ok.ensures.own
          c.in-Ok.ensures.stamp;
    }

pub unreachable-requires : goal.unreachable-requires
unreachable-requires c =
    not_missing c.args.place.link _ c.args.recvs.now.items c.find.result c.as_slice.ensures.value c.find.ensures c.requires.may.at.side
    c.in_default.is c.requires.may.at.there

pub index_mut-requires : goal.index_mut-requires
index_mut-requires c =
    subst (λ n. c.in-Some.at < n) (sym c.args.recvs.now.ok.0)
    (place_within c.args.place.link _ c.args.recvs.now.items c.find.result c.as_slice.ensures.value c.find.ensures c.in-Some.at
    c.in-Some.is)

pub bounds-channels-place : goal.bounds-channels-place
bounds-channels-place c = slice_get_within c.args.channels.now c.args.place.link c.requires.may.at.channel c.requires.may.at.joins

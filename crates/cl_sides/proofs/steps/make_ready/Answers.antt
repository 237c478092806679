use Rattle.std.proofs.Common.{◌<◌, arith, subst, sym}
use Rattle.std.proofs.lemmas.Option.{slice_get_within}
use Rattle.cl_sides.proofs.Found.{not_missing, place_within}
use Rattle.cl_sides.proofs.Stepped.{at_found, never_refused, readied_so}
use Rattle.cl_sides.proofs.steps.make_ready.Goals as goal

pub unreachable-requires-in-Err : goal.unreachable-requires-in-Err
unreachable-requires-in-Err c =
    never_refused c.args.channels.now c.args.place.link c.in-Some.at c.index-channels-place.result
    c.index-channels-place.is c.args.place.part c.args.bytes.now c.args.clock c.args.sends.now.items
    c.index_mut.result.now c.in-Err.field-0 c.requires.may
    (at_found c.args.place.link c.in-Some.at _ _ c.find.result c.as_slice.ensures.value c.in-Some.is c.find.ensures)
    c.index_mut.ensures.value c.in-Err.ensures.refused

pub returns-clause-made : goal.returns-clause-made
returns-clause-made c =
    readied_so c.args.channels.now c.args.place.link c.in-Some.at c.index-channels-place.result
    c.index-channels-place.is c.args.place.part c.args.bytes.now c.args.clock c.in-Ok.stamp c.args.sends.now.items
    c.index_mut.result.now c.ready.new.self c.requires.may
    (at_found c.args.place.link c.in-Some.at _ _ c.find.result c.as_slice.ensures.value c.in-Some.is c.find.ensures)
    c.index_mut.ensures.value c.next-kept.ensures.kept c.in-Ok.ensures.made c.in-Ok.ensures.own
    c.in-Ok.ensures.past (λ n. let fits = c.type_inv.bytes n in omega (arith, fits))

pub unreachable-requires : goal.unreachable-requires
unreachable-requires c =
    not_missing c.args.place.link _ c.args.sends.now.items c.find.result c.as_slice.ensures.value c.find.ensures c.requires.may.at.side
    c.in_default.is c.requires.may.at.there

pub index_mut-requires : goal.index_mut-requires
index_mut-requires c =
    subst (λ n. c.in-Some.at < n) (sym c.args.sends.now.ok.0)
    (place_within c.args.place.link _ c.args.sends.now.items c.find.result c.as_slice.ensures.value c.find.ensures c.in-Some.at
    c.in-Some.is)

pub bounds-channels-place : goal.bounds-channels-place
bounds-channels-place c = slice_get_within c.args.channels.now c.args.place.link c.requires.may.at.channel c.requires.may.at.joins

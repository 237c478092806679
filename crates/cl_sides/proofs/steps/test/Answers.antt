use Rattle.std.proofs.Common.{◌<◌, subst, sym}
use Rattle.std.proofs.lemmas.Option.{slice_get_within}
use Rattle.cl_sides.proofs.Found.{not_missing, place_within}
use Rattle.cl_sides.proofs.Stepped.{at_found, tested_so}
use Rattle.cl_sides.proofs.steps.test.Goals as goal

pub returns : goal.returns
returns c = record {
  tested =
      tested_so c.args.channels.now c.args.link c.in-Some.at c.index-channels-link.result c.index-channels-link.is
      c.args.clock c.args.sends.now.items c.index_mut.result.now c.test.new.self c.test.result c.test.ensures.tested.0
      c.requires.may
      (at_found c.args.link c.in-Some.at _ _ c.find.result c.as_slice.ensures.value c.in-Some.is c.find.ensures)
      c.index_mut.ensures.value c.next-kept.ensures.kept c.test.ensures.tested.1 c.test.ensures.tested.2
      c.test.ensures.own c.test.ensures.told;
}

pub unreachable-requires : goal.unreachable-requires
unreachable-requires c =
    not_missing c.args.link _ c.args.sends.now.items c.find.result c.as_slice.ensures.value c.find.ensures c.requires.may.at.side
    c.in_default.is c.requires.may.at.there

pub index_mut-requires : goal.index_mut-requires
index_mut-requires c =
    subst (λ n. c.in-Some.at < n) (sym c.args.sends.now.ok.0)
    (place_within c.args.link _ c.args.sends.now.items c.find.result c.as_slice.ensures.value c.find.ensures c.in-Some.at
    c.in-Some.is)

pub bounds-channels-link : goal.bounds-channels-link
bounds-channels-link c = slice_get_within c.args.channels.now c.args.link c.requires.may.at.channel c.requires.may.at.joins

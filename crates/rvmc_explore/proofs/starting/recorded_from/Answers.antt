use Rattle.std.proofs.Common.{subst, sym, ◌∙◌}
use Rattle.std.specs.Option.{option_map}
use Rattle.cl_explore.specs.Ends.{ExploredFrom, findings}
use Rattle.rvmc_explore.specs.InnerOutcomes.{AreHeard}
use Rattle.rvmc_explore.specs.InnerRecorded.{RecordsIn}
use Rattle.rvmc_explore.specs.Outcomes.{AreTold}
use Rattle.rvmc_explore.proofs.Listed.{within}
use Rattle.rvmc_explore.proofs.ToEnds.{records_behind}
use Rattle.rvmc_explore.proofs.starting.recorded_from.Goals as goal

pub tell-requires-clause-explored : goal.tell-requires-clause-explored
tell-requires-clause-explored g c =
    let behind = c.in_ok-found.ensures.ends in (
      behind.start,
      subst (λ order. ExploredFrom c.args.image.now order behind.start (findings c.in_ok-found.found))
          (sym c.as_slice.ensures) behind.explored,
    )

pub tell-requires-clause-heard : goal.tell-requires-clause-heard
tell-requires-clause-heard g c =
    subst (λ order. AreHeard order c.args.image.now c.searched.new.hearer.told.items) (sym c.as_slice.ensures)
    c.searched.ensures.heard

pub tell-requires-clause-within : goal.tell-requires-clause-within
tell-requires-clause-within g c =
    let behind = c.in_ok-found.ensures.ends in
    within c.args.image.now c.args.start.now.harts behind.start (findings c.in_ok-found.found)
    c.parts-parts.ensures.limits behind.explored

pub returns-clause-steps : goal.returns-clause-steps
returns-clause-steps g c =
    let found = findings c.in_ok-found.found in
    records_behind c.args.image.now c.args.start.now c.args.reach.states c.args.reach.turns c.in_ok-told.told.items
    c.args.number _ c.parts-parts.ensures.limits
    (record {
      found = found;
      known = c.in_ok-found.ensures.known;
      behind = c.in_ok-found.ensures.ends;
      bounded = c.in_ok-found.ensures.most;
      are = subst (λ order. AreTold order c.args.image.now found c.in_ok-told.told.items) c.as_slice.ensures
          c.in_ok-told.ensures.told;
      no_need = c.in_ok-told.ensures.needs ∙ c.searched.ensures.no_need;
    })
    (subst (λ os. RecordsIn os c.args.number (option_map (λ s. s.items) c.in_ok-record_in.field-0))
    c.as_slice-2.ensures.value c.in_ok-record_in.ensures)

use Rattle.std.proofs.Common.{subst, ◌∙◌}
use Rattle.std.specs.Option.{option_map}
use Rattle.cl_explore.specs.Ends.{findings}
use Rattle.cl_moves.specs.Standing.{first_node}
use Rattle.rvmc_explore.specs.InnerRecorded.{RecordsIn}
use Rattle.rvmc_explore.proofs.Hung.{hung, hung_begins, hung_needs, whole_by}
use Rattle.rvmc_explore.proofs.Listed.{within}
use Rattle.rvmc_explore.proofs.Patience.{lead_inside}
use Rattle.rvmc_explore.proofs.Needed.{begun_listed, says_on}
use Rattle.rvmc_explore.specs.Outcomes.{ListsNeed}
use Rattle.rvmc_explore.proofs.ToEnds.{records_end}
use Rattle.rvmc_explore.proofs.recording.recorded.Goals as goal

pub tell-requires-clause-explored : goal.tell-requires-clause-explored
tell-requires-clause-explored g c = (first_node c.args.image.now, (c.in_ok-found.ensures.searched).explored)

pub tell-requires-clause-within : goal.tell-requires-clause-within
tell-requires-clause-within g c =
    let image = c.args.image.now in
    within image c.args.asked.now.order.now (first_node image) (findings c.in_ok-found.found) c.parts-parts.ensures.limits
    (c.in_ok-found.ensures.searched).explored

pub tell_hang-requires : goal.tell_hang-requires
tell_hang-requires g c =
    let image = c.args.image.now in
    lead_inside image c.args.asked.now.order.now (first_node image) (findings c.in_ok-found.found)
    (c.in_ok-found.ensures.searched).explored

pub returns-clause-steps : goal.returns-clause-steps
returns-clause-steps g c =
    let image = c.args.image.now in
    let order = c.args.asked.now.order.now in
    let found = c.in_ok-found.found in
    let heard = c.search_hearing.new.hearer.told.items in
    let first_told = c.in_ok-told.told.items in
    let told = c.tell_hang.new.told.items in
    let whole = whole_by c.args.asked.now.buffered image (findings found) (ListsNeed image order heard) found.needs
    c.in_ok-found.ensures.needs in
    let ended = c.in_ok-unending.unending in
    let hangs = c.in_ok-_hanging._hanging in
    let tells = c.in_ok-_hanging.ensures in
    let begins = hung_begins order image (findings found) found.needs ended whole heard first_told told hangs
    c.in_ok-told.ensures.begins tells in
    records_end c.args.image.now c.args.asked.now.order.now c.args.asked.now.buffered c.args.asked.now.states
    c.args.asked.now.turns told c.args.number _ c.parts-parts.ensures.limits
    (record {
      found = findings c.in_ok-found.found;
      searched = c.in_ok-found.ensures.searched;
      are = hung order image (findings found) found.needs ended whole first_told told hangs c.parts-parts.ensures.limits
          (c.in_ok-found.ensures.searched).explored c.in_ok-told.ensures.told tells;
      no_need = λ copied. hung_needs order image (findings found) found.needs ended whole first_told told hangs tells
          ∙ c.in_ok-told.ensures.needs ∙ c.search_hearing.ensures.no_need copied;
      needs = (c.in_ok-found.found).needs;
      needs_are = says_on c.args.asked.now.buffered c.args.image.now (findings c.in_ok-found.found)
          (ListsNeed c.args.image.now c.args.asked.now.order.now c.search_hearing.new.hearer.told.items)
          (ListsNeed image order told) (c.in_ok-found.found).needs
          (λ sought listed. begun_listed c.args.image.now c.args.asked.now.order.now
          heard told begins listed)
          c.in_ok-found.ensures.needs;
    })
    (subst (λ os. RecordsIn os c.args.number (option_map (λ s. s.items) c.in_ok-record_in.field-0)) c.as_slice.ensures.value
    c.in_ok-record_in.ensures)

use Rattle.std.proofs.Common.{false, sym, ◌∙◌, ◌≡◌}
use Rattle.cl_explore.specs.Ends.{findings}
use Rattle.rvmc_explore.specs.Outcomes.{ListsNeed}
use Rattle.rvmc_explore.proofs.Heard.{none_heard, none_needed}
use Rattle.rvmc_explore.proofs.Needed.{if_ok_on, says_on}
use Rattle.rvmc_explore.proofs.recording.search_hearing.Goals as goal

pub explore-requires-clause-holds : goal.explore-requires-clause-holds
explore-requires-clause-holds g c =
    let told = c.args.hearer.now.told.items in (
      c.requires.sends ∙ sym c.requires.buffered,
      none_heard c.args.asked.now.order.now c.args.image.now told c.requires.none,
      λ copied. none_needed told c.requires.none,
    )

pub returns-clause-heard : goal.returns-clause-heard
returns-clause-heard g c = (c.explore.ensures.holds).1

pub returns-clause-no_need : goal.returns-clause-no_need
returns-clause-no_need g c = λ copied. (c.explore.ensures.holds).2 (c.requires.buffered ∙ copied)

pub returns-clause-needs : goal.returns-clause-needs
returns-clause-needs g c =
    let image = c.args.image.now in
    let order = c.args.asked.now.order.now in
    let listed = ListsNeed image order c.explore.new.listener.told.items in
    if_ok_on c.explore.result
    (λ found says. says_on c.args.asked.now.buffered image (findings found) (g.K.Sends.buffered ≡ false → listed) listed
    found.needs (λ sought told. told (c.requires.buffered ∙ sought.0)) says) c.explore.ensures.needs

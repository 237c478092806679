use Rattle.std.proofs.Common.{false, subst, sym, ◌∙◌, ◌≡◌}
use Rattle.rvmc_explore.specs.InnerTelling.{WereTold}
use Rattle.cl_explore.specs.Ends.{findings}
use Rattle.rvmc_explore.specs.Outcomes.{ListsNeed}
use Rattle.rvmc_explore.proofs.Heard.{none_heard, none_needed, none_told}
use Rattle.rvmc_explore.proofs.Needed.{if_ok_on, says_on}
use Rattle.rvmc_explore.proofs.putting.search_telling.Goals as goal

pub explore-requires-clause-holds : goal.explore-requires-clause-holds
explore-requires-clause-holds g c = (
  c.requires.name,
  c.requires.sends ∙ sym c.requires.buffered,
  none_heard c.args.asked.now.order.now c.args.image.now c.args.teller.now.told.items c.requires.none,
  λ copied. none_needed c.args.teller.now.told.items c.requires.none,
  none_told c.args.teller.now.told.items c.args.teller.now.taken g.K.Outset.before
      (g.O.Write.contents c.args.teller.now.out.now) c.requires.none c.requires.before,
)

pub returns-clause-same_reference : goal.returns-clause-same_reference
returns-clause-same_reference g c = (c.explore.ensures.holds).0 ∙ sym c.requires.name

pub returns-clause-told : goal.returns-clause-told
returns-clause-told g c =
    subst (λ before. WereTold c.explore.new.listener.told.items c.explore.new.listener.taken before
    (g.O.Write.contents c.explore.new.listener.out.now)) (sym c.requires.before) (c.explore.ensures.holds).4

pub returns-clause-no_need : goal.returns-clause-no_need
returns-clause-no_need g c = λ copied. (c.explore.ensures.holds).3 (c.requires.buffered ∙ copied)

pub returns-clause-needs : goal.returns-clause-needs
returns-clause-needs g c =
    let image = c.args.image.now in
    let order = c.args.asked.now.order.now in
    let listed = ListsNeed image order c.explore.new.listener.told.items in
    if_ok_on c.explore.result
    (λ found says. says_on c.args.asked.now.buffered image (findings found) (g.K.Sends.buffered ≡ false → listed) listed
    found.needs (λ sought told. told (c.requires.buffered ∙ sought.0)) says) c.explore.ensures.needs

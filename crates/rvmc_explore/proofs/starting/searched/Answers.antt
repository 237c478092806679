use Rattle.cl_explore.specs.Ends.{findings}
use Rattle.rvmc_explore.proofs.Heard.{none_heard, none_needed}
use Rattle.rvmc_explore.proofs.Needed.{says_unsought}
use Rattle.rvmc_explore.proofs.starting.searched.Goals as goal

pub explore_from-requires-clause-holds : goal.explore_from-requires-clause-holds
explore_from-requires-clause-holds g c =
    let told = c.args.hearer.now.told.items in
    (c.requires.sends, none_heard _ c.args.image.now told c.requires.none, λ copied. none_needed told c.requires.none)

pub returns-in-Ok-clause-unsought : goal.returns-in-Ok-clause-unsought
returns-in-Ok-clause-unsought g c =
    says_unsought c.args.image.now (findings c.in-Ok.found) _ (c.in-Ok.found).needs c.in-Ok.ensures.needs

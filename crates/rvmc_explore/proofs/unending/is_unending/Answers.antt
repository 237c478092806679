use Rattle.std.proofs.Common.{◌∙◌, subst, sym}
use Rattle.cl_explore.specs.Ends.{findings}
use Rattle.rvmc_explore.specs.Endless.{SaysUnendingOf}
use Rattle.rvmc_explore.proofs.Endless.{each_goes, says_unending}
use Rattle.rvmc_explore.proofs.unending.is_unending.Goals as goal

pub returns-clause-says : goal.returns-clause-says
returns-clause-says c =
    let found = findings c.args.found.now in
    subst (SaysUnendingOf found) (sym c.is_some.ensures) (says_unending found c.in_ok-node.node c.in_ok-node.ensures.says)

pub returns-clause-each : goal.returns-clause-each
returns-clause-each c = λ none.
    each_goes (findings c.args.found.now) c.in_ok-node.node c.in_ok-node.ensures.each (sym c.is_some.ensures ∙ none)

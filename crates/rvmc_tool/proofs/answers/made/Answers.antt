use Rattle.std.proofs.Common.{IfErr, IfOk, None, false, subst, sym, ◌≡◌}
use Rattle.rvmc_tool.specs.Made.{tells_search}
use Rattle.rvmc_line.specs.declared.line.ImageCommand.TheVariants.{Explore}
use Rattle.rvmc_answers.specs.Ends.{end_status}
use Rattle.rvmc_answers.specs.Outputs.{output_bytes}
use Rattle.rvmc_tool.specs.Answers.{Makes}
use Rattle.rvmc_tool.specs.Making.{RefusesImage}
use Rattle.rvmc_tool.proofs.answers.made.Goals as goal

pub returns-in-Split-clause-fault : goal.returns-in-Split-clause-fault
returns-in-Split-clause-fault g c =
    subst (λ command. IfErr c.split.result (RefusesImage command c.args.image.now)) (sym c.in-Split.is) c.split.ensures.fault

pub returns-in-ExploreFrom-clause-fault : goal.returns-in-ExploreFrom-clause-fault
returns-in-ExploreFrom-clause-fault g c =
    subst (λ command. IfErr c.explore_from.result (RefusesImage command c.args.image.now)) (sym c.in-ExploreFrom.is)
    c.explore_from.ensures.fault

pub returns-in-Split-clause-says : goal.returns-in-Split-clause-says
returns-in-Split-clause-says g c =
    subst (λ command. IfOk c.split.result (λ answer. Makes command c.args.image.now (output_bytes answer.output)
    (end_status answer.end))) (sym c.in-Split.is) c.split.ensures.says

pub returns-in-ExploreFrom-clause-says : goal.returns-in-ExploreFrom-clause-says
returns-in-ExploreFrom-clause-says g c =
    subst (λ command. IfOk c.explore_from.result (λ answer. Makes command c.args.image.now (output_bytes answer.output)
    (end_status answer.end))) (sym c.in-ExploreFrom.is) c.explore_from.ensures.says

pub explore_numbered-requires : goal.explore_numbered-requires
explore_numbered-requires g c = λ none.
    let it = c.in-Explore in
    let no : tells_search (Explore it.plan it.states it.turns None it.buffered it.progress) ≡ false =
    subst (λ number. tells_search (Explore it.plan it.states it.turns number it.buffered it.progress) ≡ false) none
    (subst (λ command. tells_search command ≡ false) it.is c.requires.whole) in absurd (cc)

pub returns-in-Explore-clause-says : goal.returns-in-Explore-clause-says
returns-in-Explore-clause-says g c =
    subst (λ command. IfOk c.explore_numbered.result (λ answer. Makes command c.args.image.now (output_bytes answer.output)
    (end_status answer.end))) (sym c.in-Explore.is) c.explore_numbered.ensures.says

pub returns-in-Explore-clause-fault : goal.returns-in-Explore-clause-fault
returns-in-Explore-clause-fault g c =
    subst (λ command. IfErr c.explore_numbered.result (RefusesImage command c.args.image.now)) (sym c.in-Explore.is)
    c.explore_numbered.ensures.fault

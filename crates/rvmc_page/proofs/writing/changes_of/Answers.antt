use Rattle.std.proofs.lemmas.Result.{IfErr-weaker}
use Rattle.rvmc_page.proofs.Written.{only_memory}
use Rattle.rvmc_page.proofs.writing.changes_of.Goals as goal

pub returns-clause-fault : goal.returns-clause-fault
returns-clause-fault c =
    IfErr-weaker c.go_on.result _ _
    (only_memory c.args.image.now c.args.steps.now c.args.from c.args.to c.args.state.now c.requires.run
    c.requires.reached c.requires.within) c.go_on.ensures.fault

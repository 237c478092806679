use Rattle.rvmc_picture.proofs.Runs.{deeds_run}
use Rattle.rvmc_picture.specs.Pictures.{view_of}
use Rattle.rvmc_page.proofs.Written.{too_many_run}
use Rattle.rvmc_page.proofs.records.shown_of.Goals as goal

pub returns-in_ok-shown-in-Ok-clause-run : goal.returns-in_ok-shown-in-Ok-clause-run
returns-in_ok-shown-in-Ok-clause-run c =
    let drawn = c.in-Ok.ensures.drawing in deeds_run c.args.image.now c.args.steps.now drawn.deeds drawn.are

pub returns-in-Err-TooMany-clause-run : goal.returns-in-Err-TooMany-clause-run
returns-in-Err-TooMany-clause-run c =
    let err = c.in-Err-TooMany in
    too_many_run c.args.image.now c.args.steps.now (view_of c.args.from c.args.to c.args.steps.now) err.field-0-0 err.field-0
    err.field-0-is err.ensures.fault

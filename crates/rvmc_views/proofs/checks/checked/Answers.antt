use Rattle.std.proofs.Common.{refl, subst, sym}
use Rattle.rvmc_line.specs.declared.line.RecordCommand.TheVariants as command
use Rattle.rvmc_views.specs.Verdicts.{verdict_status}
use Rattle.rvmc_answers.specs.declared.answers.End.TheVariants.{Status}
use Rattle.rvmc_views.specs.Records.{SaysOfRecord}
use Rattle.rvmc_views.proofs.Readings.{check_says}
use Rattle.rvmc_views.proofs.checks.checked.Goals as goal

pub returns-clause-says : goal.returns-clause-says
returns-clause-says c =
    let found = c.in_ok-found.found in
    subst (λ status. SaysOfRecord command.Check c.args.bytes.now c.into_bytes.result.items status)
    (sym c.verdict_status.ensures)
    (check_says c.args.bytes.now found c.into_bytes.result.items (Status (verdict_status found.verdict))
    c.in_ok-found.ensures.found (rw (c.into_bytes.ensures.value) c.in_ok-text.ensures) refl)

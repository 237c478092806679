use Rattle.std.proofs.Common.{◌∙◌, refl, subst, true}
use Rattle.rvmc_tool.specs.Answers.{Says}
use Rattle.rvmc_answers.specs.Ends.{end_status}
use Rattle.rvmc_answers.specs.Outputs.{output_bytes}
use Rattle.rvmc_line.specs.declared.line.CommandLine.TheVariants.{OfImage, OfRecord}
use Rattle.rvmc_line.specs.declared.line.ImageCommand.TheVariants.{One}
use Rattle.rvmc_line.specs.declared.line.RecordCommand.TheVariants.{Check}
use Rattle.rvmc_line.specs.declared.line.Written.TheVariants.{Record}
use Rattle.rvmc_tool_laws.proofs.witnesses.what_is_recorded_is_good.Goals as goal

pub returns : goal.returns
returns c = λ some.
    let line = OfImage true (One c.args.budget c.args.plan c.args.order Record) in
    let recorded = c.in_ok-recorded.recorded in
    let checked = c.in_ok-checked.checked in
    let told = output_bytes checked.output in
    let same = c.in_ok-text.ensures in
    c.recorded_is_good.ensures line c.args.bytes.now (output_bytes recorded.output) told (end_status recorded.end)
    (end_status checked.end) refl c.in_ok-recorded.ensures (λ none. some (same ∙ none))
    (subst (λ text. Says (OfRecord Check) text told (end_status checked.end)) (c.deref.ensures.value ∙ same)
    c.in_ok-checked.ensures)

use Rattle.std.proofs.Common.{rules, ◌∙◌, ap, List, ℕ, subst, sym}
use Rattle.rv_asm.specs.Source.{meaning}
use Rattle.rv_asm.specs.Made.{FailsAt}
use Rattle.rvmc_answers.proofs.Sources.{source_image-utf8, told_meaning, told_source}
use Rattle.rvmc_answers.proofs.images.source_image.Goals as goal

pub returns-in_ok-assemble-in-Ok-clause-image : goal.returns-in_ok-assemble-in-Ok-clause-image
returns-in_ok-assemble-in-Ok-clause-image c =
    let text = c.in-Ok.ensures.cases in
    source_image-utf8 _ text.1 ∙ ap told_meaning (ap meaning (sym text.0) ∙ c.in_ok-assemble-in-Ok.ensures.image)

pub returns-in_err-assemble-in-Ok-clause-image : goal.returns-in_err-assemble-in-Ok-clause-image
returns-in_err-assemble-in-Ok-clause-image c =
    let text = c.in-Ok.ensures.cases in
    let fault = c.in_err-assemble-in-Ok.field-0.0 in
    let told = told_source c.args.bytes.now fault text.1 (subst (λ (t : List ℕ). FailsAt fault (meaning t)) text.0 c.in_err-assemble-in-Ok.ensures.fault) in
    search rules

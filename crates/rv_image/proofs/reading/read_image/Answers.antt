-- What is read is an image and is spelled by the bytes; an image's text is read as that image.
use Rattle.std.proofs.Common.{ap, subst, sym, ◌∙◌, arith}
use Rattle.std.proofs.lemmas.Result.{err_from_is_err_and}
use Rattle.rv_image.specs.Reading.{reading}
use Rattle.rv_image.specs.ReadingAnswers.{IsFaultOf}
use Rattle.rv_image.proofs.Whole.{reading_takes, reading_again}
use Rattle.rv_image.proofs.reading.read_image.Goals as goal

pub new-requires : goal.new-requires
new-requires c = (reading_takes c.args.bytes.now c.in_ok-parts.parts (λ i. omega (arith, c.type_inv.bytes i)) c.in_ok-parts.ensures.exact).0

pub returns-clause-found : goal.returns-clause-found
returns-clause-found c = rw c.new.ensures (reading_takes c.args.bytes.now c.in_ok-parts.parts (λ i. omega (arith, c.type_inv.bytes i)) c.in_ok-parts.ensures.exact).1

pub returns-clause-only : goal.returns-clause-only
returns-clause-only c = λ image is spelled. rw c.new.ensures (sym (ap reading spelled ∙ reading_again image is) ∙ c.in_ok-parts.ensures.exact)

pub returns-in_err-parts-clause-only : goal.returns-in_err-parts-clause-only
returns-in_err-parts-clause-only c =
    let p = err_from_is_err_and c.from_residual.result c.from_residual.ensures.1 in
    λ image is spelled. rw (p.1, p.2) (subst (λ read. IsFaultOf read c.in_err-parts.field-0.0) (ap reading spelled ∙ reading_again image is) c.in_err-parts.ensures.exact)

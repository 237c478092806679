use Rattle.std.proofs.Common.{◌∙◌, arith, sym}
use Rattle.rvmc_starts.proofs.Steps.{end_at}
use Rattle.rvmc_starts.proofs.reading.end_in.Goals as goal

pub overflow_sub-length : goal.overflow_sub-length
overflow_sub-length c =
    omega (arith, c.in-Some.ensures.behind.within, c.in-Some-text_line.ensures.behind.within)

pub returns : goal.returns
returns c =
    end_at c.args.bytes.now c.in-Some.head.line.now c.in-Some.head.rest.now c.in-Some-text_line.line.line.now
    c.in-Some-text_line.line.rest.now c.in-Some-2.size c.in-Some-3.end c.in-Some.ensures.line c.in-Some-text_line.ensures.line
    (sym c.in-Some-2.is ∙ c.in_ok-size.ensures) (sym c.in-Some-3.is ∙ c.in_ok-end.ensures) c.in-Some.ensures.behind
    c.in-Some-text_line.ensures.behind

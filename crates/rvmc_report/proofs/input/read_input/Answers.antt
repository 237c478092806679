use Rattle.std.proofs.Common.{rules}
use Rattle.rvmc_report.proofs.Known.{taken_at_most}
use Rattle.rvmc_report.proofs.input.read_input.Goals as goal

-- what was taken before, and what this read gave
pub returns-then-count-len-clause-front : goal.returns-then-count-len-clause-front
returns-then-count-len-clause-front g c =
    taken_at_most _ _ _ _ _ c.in-Ok.count c.loop.invariant.short (search rules) c.loop.invariant.taken c.in-Ok.ensures.bytes.0

pub returns-in_err-extend_from_slice-clause-front : goal.returns-in_err-extend_from_slice-clause-front
returns-in_err-extend_from_slice-clause-front g c =
    taken_at_most _ _ _ _ _ c.in-Ok.count c.loop.invariant.short (search rules) c.loop.invariant.taken c.in-Ok.ensures.bytes.0

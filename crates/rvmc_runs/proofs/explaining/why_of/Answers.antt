use Rattle.std.proofs.Common.{◌≤◌, arith, length}
use Rattle.rvmc_runs.proofs.Places.{no_break}
use Rattle.rvmc_runs.proofs.explaining.why_of.Goals as goal

-- the steps are a run, so none of them is wrong
pub unreachable-requires-in-Err-Step : goal.unreachable-requires-in-Err-Step
unreachable-requires-in-Err-Step c =
    let is = c.requires in
    let few : length c.args.left.traces.items ≤ 256 = omega (arith, is.ranks, is.limits.few_ranks) in
    no_break c.args.image.now c.args.left c.in_ok-steps.steps.items c.deref.result.now c.len.result
    c.in-Err-Step.field-0-0 c.in-Err-Step.field-0 is.merged (c.in_ok-steps.ensures few) c.deref.ensures.value
    c.in-Err-Step.field-0-is c.in-Err-Step.ensures.fault

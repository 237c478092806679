use Rattle.std.specs.Prelude.{◌≡◌, ◌<◌, Some, length, slice_get}
use Rattle.std.proofs.Common.{arith, rules}
use Rattle.std.proofs.lemmas.Grind.{common_steps}
use Rattle.std.proofs.lemmas.Option.{gets, slice_get_within}
use Rattle.cl_threads.proofs.NoneTold.{none_more}
use Rattle.cl_threads.proofs.told.has_told.Goals as goal

pub returns-then-was_told-clause-some : goal.returns-then-was_told-clause-some
returns-then-was_told-clause-some c =
    λ yes. (
      c.loop-rank.rank,
      c.index-plans-rank.result,
      c.index-in-loop-rank.result.now,
      grind (arith, common_steps, gets),
      grind (arith, common_steps, gets, c.was_told.ensures.told, c.if-was_told.true),
      grind (arith, common_steps, gets),
      search rules,
    )

pub loop-rank-preserved : goal.loop-rank-preserved
loop-rank-preserved c =
    none_more c.args.plans.now c.args.left.now.stops.items c.args.left.now.traces.items c.loop-rank.rank
    c.index-plans-rank.result c.index.result.now c.index-in-loop-rank.result.now (grind (arith, common_steps, gets))
    (grind (arith, common_steps, gets)) (grind (arith, common_steps, gets)) (λ budget. search rules) c.loop-rank.invariant

pub returns-clause-none : goal.returns-clause-none
returns-clause-none c =
    λ no r plan stop trace at_plan at_stop at_trace is.
    let below = slice_get_within c.args.plans.now r plan at_plan in
    c.loop-rank.invariant r plan stop trace (omega (arith, below, c.loop-rank-test.false)) at_plan
    at_stop at_trace is

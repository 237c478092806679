use Rattle.std.proofs.Common.{arith}
use Rattle.cl_arrival_laws.proofs.Runs.{arrived_run}
use Rattle.cl_threads.proofs.CutPlans.{untold_whole}
use Rattle.cl_threads.proofs.Merged.{merged_run}
use Rattle.cl_threads.proofs.threads.run_threads_until_told.Goals as goal

pub has_told-told-requires-clause-stops : goal.has_told-told-requires-clause-stops
has_told-told-requires-clause-stops g c =
    let ran = c.in_ok-left.ensures.run in
    let stops = ran.run.stops_count in
    let one_each = ran.run.planned.one_each in
    let cuts = ran.are_by.one_each in
    omega (arith, stops, one_each, cuts)

pub has_told-told-requires-clause-traces : goal.has_told-told-requires-clause-traces
has_told-told-requires-clause-traces g c =
    let ran = c.in_ok-left.ensures.run in
    let traces = ran.run.traces_count in
    let one_each = ran.run.planned.one_each in
    let cuts = ran.are_by.one_each in
    omega (arith, traces, one_each, cuts)

pub returns-clause-whole : goal.returns-clause-whole
returns-clause-whole g c =
    λ untold. untold_whole c.args.image.now c.args.plans.now c.in_ok-left.left c.in_ok-left.ensures.run
    (c.has_told-told.ensures.none untold)

pub returns-clause-merged : goal.returns-clause-merged
returns-clause-merged g c =
    let ran = c.in_ok-left.ensures.run in
    merged_run c.args.image.now ran.cuts c.in_ok-left.left c.parts-parts.ensures.limits ran.run

pub returns-clause-arrived : goal.returns-clause-arrived
returns-clause-arrived g c =
    arrived_run c.args.image.now c.in_ok-left.left c.parts-parts.ensures.limits (returns-clause-merged g c)

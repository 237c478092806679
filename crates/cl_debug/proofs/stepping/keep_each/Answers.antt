use Rattle.std.proofs.Common.{◌≡◌, ◌+◌, ◌*◌, ◌≤◌, arith, length, subst}
use Rattle.std.proofs.lemmas.Result.{err_from_is_err_and}
use Rattle.cl_debug.specs.Spacing.{multiples}
use Rattle.cl_debug.proofs.Keeping.{KeptSoFar, all_kept, all_run, at_most, kept_fault, kept_more, none_kept}
use Rattle.cl_debug.proofs.stepping.keep_each.Goals as goal

pub loop-k-init : goal.loop-k-init
loop-k-init c = λ image start.
    none_kept image c.args.steps.now c.args.spacing c.args.kept.now.items c.args.state.now c.requires.none start

pub returns-in_err-advance-clause-fault : goal.returns-in_err-advance-clause-fault
returns-in_err-advance-clause-fault c = λ image start.
    let steps = c.args.steps.now in
    let within : c.loop-k.k * c.args.spacing ≤ length steps =
    at_most c.args.spacing (length steps) c.loop-k.k c.requires.some c.loop-k-test.true in
    let p = err_from_is_err_and c.from_residual-in_err-advance.result c.from_residual-in_err-advance.ensures.1 in
    rw (p.1, p.2)
    (kept_fault image steps c.args.spacing c.loop-k.k c.loop-k.kept.items c.loop-k.state
    (c.loop-k.invariant image start) within
    _ c.in_err-advance.field-0.0 c.in_err-advance.ensures.fault)

pub loop-k-preserved : goal.loop-k-preserved
loop-k-preserved c = λ image start.
    let steps = c.args.steps.now in
    let within : c.loop-k.k * c.args.spacing ≤ length steps =
    at_most c.args.spacing (length steps) c.loop-k.k c.requires.some c.loop-k-test.true in
    kept_more image steps c.args.spacing c.loop-k.k c.loop-k.kept.items c.loop-k.state
    (c.loop-k.invariant image start) within
    c.in_ok-here.here c.push.new.self.items c.advance.new.state (c.loop-k.k * c.args.spacing + c.min.result)
    c.in_ok-here.ensures c.in_ok-push.ensures.items (omega (arith, c.min.ensures))
    c.in_ok-advance.ensures.leads

pub returns-clause-kept : goal.returns-clause-kept
returns-clause-kept c = λ image start.
    let steps = c.args.steps.now in
    let spacing = c.args.spacing in
    let kept = c.loop-k.kept.items in
    let state = c.loop-k.state in
    let end : c.loop-k.k ≡ multiples spacing (length steps) = omega arith in
    all_kept image steps spacing kept state c.requires.some
    (subst (λ k. KeptSoFar image steps spacing k kept state) end (c.loop-k.invariant image start))

pub returns-clause-run : goal.returns-clause-run
returns-clause-run c = λ image start.
    let steps = c.args.steps.now in
    let spacing = c.args.spacing in
    let kept = c.loop-k.kept.items in
    let state = c.loop-k.state in
    let end : c.loop-k.k ≡ multiples spacing (length steps) = omega arith in
    let all = subst (λ k. KeptSoFar image steps spacing k kept state) end (c.loop-k.invariant image start) in
    let reached = all_run image steps spacing kept state c.requires.some all in
    (reached.cluster, reached.run)

pub overflow_mul-from : goal.overflow_mul-from
overflow_mul-from c =
    let within = at_most c.args.spacing (length c.args.steps.now) c.loop-k.k c.requires.some c.loop-k-test.true in
    omega (arith, within)

pub overflow_add-to : goal.overflow_add-to
overflow_add-to c =
    let within = at_most c.args.spacing (length c.args.steps.now) c.loop-k.k c.requires.some c.loop-k-test.true in
    omega (arith, within, c.min.ensures)

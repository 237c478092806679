use Rattle.std.proofs.Common.{◌≡◌, ◌≤◌, ◌-◌, ◌*◌, ◌/◌, arith, length, subst}
use Rattle.std.proofs.lemmas.Result.{err_from_is_err_and}
use Rattle.std.specs.Prelude.{ℕ}
use Rattle.cl_machine.specs.Cluster.{Cluster}
use Rattle.rvmc_motions.specs.Turns.{IsHistory, backward_stop}
use Rattle.rvmc_motions.specs.Walking.{IsBelow, IsLastIn}
use Rattle.rvmc_motions.proofs.Ways.{back_found, back_more, only_memory, chunk_below, steps_of}
use Rattle.rvmc_motions.proofs.motions.backwards.Goals as goal

pub returns-in_err-go-clause-fault : goal.returns-in_err-go-clause-fault
returns-in_err-go-clause-fault c =
    let old = c.args.debugger.now in
    let now = c.loop-to.debugger in
    let next = c.last_between.new.debugger in
    let within = c.loop-to.invariant.within in
    let whole = c.place-to.ensures.inside in
    let same : length next.steps ≡ length old.steps =
    steps_of old now next c.loop-to.invariant.here c.in_ok-place.ensures.moved in
    let below = subst (IsBelow c.loop-to.to) c.in-Some.is c.in_ok-place.ensures.below in
    let there : c.in-Some.place ≤ length next.steps = omega (arith, below, within, whole, same) in
    let p = err_from_is_err_and c.from_residual-in_err-go.result c.from_residual-in_err-go.ensures.1 in
    rw (p.1, p.2) (only_memory next.steps c.in-Some.place c.in_err-go.field-0.0 there c.in_err-go.ensures.fault)

pub returns-in-Some-clause-goes : goal.returns-in-Some-clause-goes
returns-in-Some-clause-goes c =
    let old = c.args.debugger.now in
    let marks = c.args.marks.now in
    let now = c.loop-to.debugger in
    let from = (c.loop-to.to - 1) / c.spacing-spacing.result * c.spacing-spacing.result in
    let low : from ≤ c.loop-to.to = chunk_below c.loop-to.to c.spacing-spacing.result in
    let last = subst
    (λ found. (history : ℕ → Cluster) → IsHistory now.image now.steps history
    → IsLastIn (backward_stop c.args.mover marks now.steps history) from c.loop-to.to found)
    c.in-Some.is c.in_ok-place.ensures.found in
    back_found old marks c.args.mover from c.loop-to.to now c.last_between.new.debugger c.loop-to.invariant low
    c.in_ok-place.ensures.moved c.in-Some.place c.in-Some.halt c.go.new.self c.in_ok-go.ensures.there last

pub loop-to-preserved : goal.loop-to-preserved
loop-to-preserved c =
    let old = c.args.debugger.now in
    let marks = c.args.marks.now in
    let now = c.loop-to.debugger in
    let from = (c.loop-to.to - 1) / c.spacing-spacing.result * c.spacing-spacing.result in
    let low : from ≤ c.loop-to.to = chunk_below c.loop-to.to c.spacing-spacing.result in
    let last = subst
    (λ found. (history : ℕ → Cluster) → IsHistory now.image now.steps history
    → IsLastIn (backward_stop c.args.mover marks now.steps history) from c.loop-to.to found)
    c.in_default.is c.in_ok-place.ensures.found in
    back_more old marks c.args.mover from c.loop-to.to now c.last_between.new.debugger c.loop-to.invariant low
    c.in_ok-place.ensures.moved last

use Rattle.std.proofs.Common.{◌≡◌, ◌<◌, ℕ, length, refl, arith, subst}
use Rattle.std.proofs.lemmas.Option.{slice_get_read}
use Rattle.std.proofs.lemmas.Result.{err_from_is_err_and}
use Rattle.cl_replay.proofs.Runs.{breaks_before}
use Rattle.rvmc_list.specs.Meeting.{IsCountedTo}
use Rattle.rvmc_list.proofs.Told.{counted_more}
use Rattle.rvmc_list.proofs.listing.meet_steps.Goals as goal

pub loop-n-init : goal.loop-n-init
loop-n-init c = record { counted = c.requires.counted; most = omega arith }

pub loop-n-preserved : goal.loop-n-preserved
loop-n-preserved c =
    let n = c.loop-n.n in
    let e = c.index-steps-n.result in
    let below : n < length c.args.steps.now = omega arith in
    let there = slice_get_read c.args.steps.now (length c.args.steps.now) n e refl below c.index-steps-n.is in
    let on : n < c.args.to = omega arith in
    record {
      counted = counted_more c.args.image.now c.args.steps.now n c.loop-n.state c.loop-n.phases
          c.loop-n.invariant.counted e there c.step_at.new.self c.in_ok-step_at.ensures.leads c.in_ok-meet.field-0
          c.meet.new.phases c.in_ok-meet.ensures;
      most = omega (arith, on);
    }

pub returns-in_err-step_at : goal.returns-in_err-step_at
returns-in_err-step_at c =
    let n = c.loop-n.n in
    let e = c.index-steps-n.result in
    let below : n < length c.args.steps.now = omega arith in
    let there = slice_get_read c.args.steps.now (length c.args.steps.now) n e refl below c.index-steps-n.is in
    let on : n < c.args.to = omega arith in
    let fault = breaks_before c.args.image.now c.args.steps.now n c.loop-n.state c.loop-n.invariant.counted.reached e there
    c.args.to on c.requires.within c.in_err-step_at.field-0.0 c.in_err-step_at.ensures.fault in
    let p = err_from_is_err_and c.from_residual-in_err-step_at.result c.from_residual-in_err-step_at.ensures.1 in
    rw (p.1, p.2) (record { counted = tt; fault = fault })

pub returns : goal.returns
returns c =
    let all : c.loop-n.n ≡ c.args.to = omega arith in
    record {
      counted = subst (λ (n : ℕ). IsCountedTo c.args.image.now c.args.steps.now n c.loop-n.state c.loop-n.phases) all
          c.loop-n.invariant.counted;
      fault = tt;
    }

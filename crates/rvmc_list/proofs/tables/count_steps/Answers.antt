use Rattle.std.proofs.Common.{◌≡◌, ◌<◌, ◌≤◌, ◌-◌, length, refl, arith}
use Rattle.std.proofs.lemmas.Option.{slice_get_read}
use Rattle.std.proofs.lemmas.Result.{err_from_is_err_and}
use Rattle.cl_replay.proofs.Runs.{breaks_before}
use Rattle.rvmc_list.proofs.Counts.{counted_all, counted_more, counted_none}
use Rattle.rvmc_list.proofs.tables.count_steps.Goals as goal

pub loop-n-init : goal.loop-n-init
loop-n-init c = record {
  counted = counted_none c.args.image.now c.args.steps.now c.args.wanted.now.rank c.args.wanted.now.from
      c.args.state.now c.args.tables.now c.requires.reached;
  most = omega arith;
}

pub loop-n-preserved : goal.loop-n-preserved
loop-n-preserved c =
    let n = c.loop-n.n in
    let e = c.index-steps-n.result in
    let below : n < length c.args.steps.now = omega arith in
    let there = slice_get_read c.args.steps.now (length c.args.steps.now) n e refl below c.index-steps-n.is in
    let forwards : c.args.wanted.now.from ≤ n = omega arith in
    let on : n < c.args.to = omega arith in
    record {
      counted = counted_more c.args.image.now c.args.steps.now c.args.wanted.now.rank c.args.wanted.now.from n forwards
          c.loop-n.state c.args.tables.now c.loop-n.tables c.loop-n.invariant.counted e there c.count_step.new.state
          c.in_ok-count_step.ensures.leads c.count_step.new.tables c.in_ok-count_step.ensures.counts;
      most = omega (arith, on);
    }

pub returns-in_err-count_step : goal.returns-in_err-count_step
returns-in_err-count_step c =
    let n = c.loop-n.n in
    let e = c.index-steps-n.result in
    let below : n < length c.args.steps.now = omega arith in
    let there = slice_get_read c.args.steps.now (length c.args.steps.now) n e refl below c.index-steps-n.is in
    let on : n < c.args.to = omega arith in
    let fault = breaks_before c.args.image.now c.args.steps.now n c.loop-n.state c.loop-n.invariant.counted.reached e there
    c.args.to on c.requires.within c.in_err-count_step.field-0.0 c.in_err-count_step.ensures.fault in
    let p = err_from_is_err_and c.from_residual.result c.from_residual.ensures.1 in
    rw (p.1, p.2) (record { counted = tt; fault = fault })

pub returns : goal.returns
returns c =
    let same : c.loop-n.n - c.args.wanted.now.from ≡ c.args.to - c.args.wanted.now.from =
    omega arith in
    record {
      counted = counted_all c.args.image.now c.args.steps.now c.args.wanted.now c.loop-n.n c.args.to c.loop-n.state
          c.args.tables.now c.loop-n.tables c.loop-n.invariant.counted same;
      fault = tt;
    }

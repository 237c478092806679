use Rattle.std.proofs.Common.{◌≡◌, ◌<◌, List, length, refl, arith, rules, subst}
use Rattle.std.proofs.lemmas.Option.{slice_get_read}
use Rattle.std.proofs.lemmas.Result.{err_from_is_err_and}
use Rattle.rv_image_types.specs.declared.images.Symbol.{Symbol}
use Rattle.rvmc_picture.specs.Pictures.{scope_in}
use Rattle.rvmc_picture.specs.Walking.{Puts}
use Rattle.cl_replay.proofs.Runs.{breaks_before}
use Rattle.rvmc_picture.proofs.Told.{put_more}
use Rattle.rvmc_picture.proofs.walking.put_steps.Goals as goal

pub loop-n-preserved : goal.loop-n-preserved
loop-n-preserved c =
    let n = c.loop-n.n in
    let e = c.index-steps-n.result in
    let below : n < length c.args.steps.now = omega arith in
    let there = slice_get_read c.args.steps.now (length c.args.steps.now) n e refl below c.index-steps-n.is in
    let named : c.as_slice-symbols.result.now ≡ c.args.image.now.symbols = search rules in
    record {
      put = put_more c.args.image.now c.args.steps.now (scope_in c.args.image.now c.args.view) n c.loop-n.state c.loop-n.walk
          c.loop-n.invariant.put e there c.put_step.new.state c.in_ok-put_step.ensures.leads c.put_step.new.walk
          (subst (λ (symbols : List Symbol). Puts symbols c.loop-n.state n e c.put_step.new.state c.loop-n.walk
          c.put_step.new.walk) named c.in_ok-put_step.ensures.puts);
      most = omega arith;
    }

pub returns-in_err-put_step-clause-fault : goal.returns-in_err-put_step-clause-fault
returns-in_err-put_step-clause-fault c =
    let n = c.loop-n.n in
    let e = c.index-steps-n.result in
    let below : n < length c.args.steps.now = omega arith in
    let there = slice_get_read c.args.steps.now (length c.args.steps.now) n e refl below c.index-steps-n.is in
    let fault = breaks_before c.args.image.now c.args.steps.now n c.loop-n.state c.loop-n.invariant.put.reached e there
    (length c.args.steps.now) below (omega arith) c.in_err-put_step.field-0.0 c.in_err-put_step.ensures.fault in
    let p = err_from_is_err_and c.from_residual.result c.from_residual.ensures.1 in
    rw (p.1, p.2) fault

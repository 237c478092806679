use Rattle.std.proofs.Common.{◌≡◌, ◌<◌, ◌≤◌, List, length, refl, subst, sym, arith}
use Rattle.std.proofs.lemmas.Option.{slice_get_read}
use Rattle.std.proofs.lemmas.Result.{err_from_is_err_and}
use Rattle.rvmc_changes.specs.Walking.{Makes}
use Rattle.rvmc_changes.specs.declared.steps.Change.{Change}
use Rattle.rvmc_changes.proofs.Walked.{made_more, none_made, step_breaks}
use Rattle.rvmc_changes.proofs.walking.put_changes.Goals as goal

pub loop-n-init : goal.loop-n-init
loop-n-init c = record {
  made = subst (λ (cs : List Change). Makes c.args.steps.now c.args.from c.args.state.now c.args.from c.args.state.now cs)
      (sym c.requires.none) (none_made c.args.steps.now c.args.from c.args.state.now);
  most = c.requires.order;
}

pub loop-n-preserved : goal.loop-n-preserved
loop-n-preserved c =
    let n = c.loop-n.n in
    let e = c.index-steps-n.result in
    let below : n < length c.args.steps.now = omega arith in
    let there = slice_get_read c.args.steps.now (length c.args.steps.now) n e refl below c.index-steps-n.is in
    let forwards : c.args.from ≤ n = omega arith in
    record {
      made = made_more c.args.steps.now c.args.from n c.args.state.now c.loop-n.state c.loop-n.changes.items
          c.loop-n.invariant.made e there forwards c.put_change.new.state c.in_ok-put_change.ensures.leads
          c.put_change.new.changes.items c.in_ok-put_change.ensures.adds;
      most = omega arith;
    }

pub returns-in_err-put_change-clause-fault : goal.returns-in_err-put_change-clause-fault
returns-in_err-put_change-clause-fault c =
    let n = c.loop-n.n in
    let e = c.index-steps-n.result in
    let below : n < length c.args.steps.now = omega arith in
    let there = slice_get_read c.args.steps.now (length c.args.steps.now) n e refl below c.index-steps-n.is in
    let on : n < c.args.to = omega arith in
    let fault = step_breaks c.args.steps.now c.args.from n c.args.state.now c.loop-n.state c.loop-n.changes.items
    c.loop-n.invariant.made e there c.args.to on c.in_err-put_change.field-0.0 c.in_err-put_change.ensures.fault in
    let p = err_from_is_err_and c.from_residual.result c.from_residual.ensures.1 in
    rw (p.1, p.2) fault

pub returns-clause-made : goal.returns-clause-made
returns-clause-made c =
    let all : c.loop-n.n ≡ c.args.to = omega arith in
    subst (λ n. Makes c.args.steps.now c.args.from c.args.state.now n c.loop-n.state c.loop-n.changes.items) all
    c.loop-n.invariant.made

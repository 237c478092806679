use Rattle.std.proofs.Common.{◌≡◌, ◌<◌, ◌≤◌, ◌-◌, List, length, refl, arith, rules, subst, sym}
use Rattle.std.proofs.lemmas.Option.{slice_get_read}
use Rattle.std.proofs.lemmas.Result.{err_from_is_err_and}
use Rattle.rv_image_types.specs.declared.images.Symbol.{Symbol}
use Rattle.rvmc_list.specs.Keeping.{AreKept}
use Rattle.rvmc_list.specs.Putting.{Puts}
use Rattle.std.specs.Io.KnownBytes.{Appends}
use Rattle.rvmc_list.proofs.Written.{begun_so_far, step_wants_memory, whatever, written_all, written_more, written_none}
use Rattle.rvmc_list.proofs.listing.put_steps.Goals as goal

pub loop-n-init : goal.loop-n-init
loop-n-init g c = record {
  written = written_none c.args.image.now c.args.steps.now c.args.wanted.now c.args.state.now c.args.phases.now
      c.new-text.result.items _ c.requires.counted c.new-text.ensures.items;
  within = tt;
  kept = c.requires.kept;
  most = omega arith;
}

pub loop-n-preserved : goal.loop-n-preserved
loop-n-preserved g c =
    let n = c.loop-n.n in
    let e = c.index-steps-n.result in
    let below : n < length c.args.steps.now = omega arith in
    let there = slice_get_read c.args.steps.now (length c.args.steps.now) n e refl below c.index-steps-n.is in
    let forwards : c.args.wanted.now.from ≤ n = omega arith in
    let on : n < c.args.to = omega arith in
    let named : c.as_slice-symbols.result.now ≡ c.args.image.now.symbols = search rules in
    record {
      written = written_more c.args.image.now c.args.steps.now c.args.wanted.now n c.loop-n.state c.loop-n.phases
          c.loop-n.begun c.loop-n.text.items _ _ c.loop-n.invariant.written forwards e there c.put_step.new.state
          c.in_ok-begun.ensures.leads c.in_ok-phase.phase c.meet.new.phases c.in_ok-phase.ensures c.in_ok-begun.begun
          c.put_step.new.text.items
          (subst (λ (symbols : List Symbol). Puts symbols c.args.wanted.now c.loop-n.state n c.in_ok-phase.phase e
          c.put_step.new.state c.loop-n.text.items c.loop-n.begun c.put_step.new.text.items c.in_ok-begun.begun) named
          c.in_ok-begun.ensures.puts) c.put_lines.new.text.items _ (c.put_lines.ensures (search rules));
      within = c.in_ok-begun.ensures.within;
      kept = subst (λ (symbols : List Symbol). AreKept symbols c.put_step.new.texts) named c.in_ok-begun.ensures.kept;
      most = omega (arith, on);
    }

pub returns-in_err-phase-clause-begun : goal.returns-in_err-phase-clause-begun
returns-in_err-phase-clause-begun g c =
    whatever c.from_residual.result _
    (begun_so_far c.args.image.now c.args.steps.now c.args.wanted.now c.loop-n.n c.loop-n.state c.loop-n.phases
    c.loop-n.begun c.loop-n.text.items _ _ c.loop-n.invariant.written c.args.to c.requires.checked (omega arith)
    c.loop-n.invariant.most c.requires.within)

pub put_step-requires-clause-kept : goal.put_step-requires-clause-kept
put_step-requires-clause-kept g c =
    let named : c.as_slice-symbols.result.now ≡ c.args.image.now.symbols = search rules in
    subst (λ (symbols : List Symbol). AreKept symbols c.loop-n.texts) (sym named) c.loop-n.invariant.kept

pub returns-in_err-begun-clause-fault : goal.returns-in_err-begun-clause-fault
returns-in_err-begun-clause-fault g c =
    let n = c.loop-n.n in
    let e = c.index-steps-n.result in
    let below : n < length c.args.steps.now = omega arith in
    let there = slice_get_read c.args.steps.now (length c.args.steps.now) n e refl below c.index-steps-n.is in
    let on : n < c.args.to = omega arith in
    let p = err_from_is_err_and c.from_residual-in_err-begun.result c.from_residual-in_err-begun.ensures.1 in
    rw (p.1, p.2)
    (step_wants_memory c.args.image.now c.args.steps.now c.args.wanted.now c.args.to n c.loop-n.state c.loop-n.phases
    c.requires.checked c.requires.within c.loop-n.invariant.written.put.counted_to e there on c.in_err-begun.field-0.0
    c.in_err-begun.ensures.fault)

pub returns-in_err-begun-clause-begun : goal.returns-in_err-begun-clause-begun
returns-in_err-begun-clause-begun g c =
    whatever c.from_residual-in_err-begun.result _
    (begun_so_far c.args.image.now c.args.steps.now c.args.wanted.now c.loop-n.n c.loop-n.state c.loop-n.phases
    c.loop-n.begun c.loop-n.text.items _ _ c.loop-n.invariant.written c.args.to c.requires.checked (omega arith)
    c.loop-n.invariant.most c.requires.within)

pub returns-in_err-close-clause-begun : goal.returns-in_err-close-clause-begun
returns-in_err-close-clause-begun g c =
    whatever c.from_residual-in_err-close.result _
    (begun_so_far c.args.image.now c.args.steps.now c.args.wanted.now c.loop-n.n c.loop-n.state c.loop-n.phases
    c.loop-n.begun c.loop-n.text.items _ _ c.loop-n.invariant.written c.args.to c.requires.checked (omega arith)
    c.loop-n.invariant.most c.requires.within)

pub returns-clause-written : goal.returns-clause-written
returns-clause-written g c = λ ok.
    let same : c.loop-n.n - c.args.wanted.now.from ≡ c.args.to - c.args.wanted.now.from = omega arith in
    let wrote : Appends (g.W.Write.contents c.loop-n.out) (g.W.Write.contents c.write_all.new.self) c.close.new.text.items =
    search rules in
    written_all c.args.image.now c.args.steps.now c.args.wanted.now c.loop-n.n c.loop-n.state c.loop-n.phases c.loop-n.begun
    c.loop-n.text.items _ _ c.loop-n.invariant.written c.args.to c.requires.checked same c.close.new.text.items
    c.in_ok-close.ensures _ wrote

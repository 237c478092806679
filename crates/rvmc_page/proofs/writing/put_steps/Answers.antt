use Rattle.std.proofs.Common.{arith, rules}
use Rattle.rvmc_changes.specs.Given.{differences}
use Rattle.rvmc_page.specs.Written.{view_to}
use Rattle.rvmc_page.proofs.Written.{anyway, begun_so_far, written_more, written_none}
use Rattle.rvmc_page.proofs.writing.put_steps.Goals as goal

pub loop-place-init : goal.loop-place-init
loop-place-init g c = record {
  written = written_none c.args.image.now c.args.steps.now (view_to c.args.page.now.from c.args.to) c.args.page.now
      c.args.page.now.from c.args.state.now c.args.text.now.items _ c.requires.shown c.requires.held;
  least = omega arith;
  most = omega arith;
}

pub loop-place-preserved : goal.loop-place-preserved
loop-place-preserved g c = record {
  written = written_more c.args.image.now c.args.steps.now (view_to c.args.page.now.from c.args.to) c.args.page.now
      c.loop-place.place c.loop-place.state c.loop-place.text.items _ _ c.loop-place.invariant.written
      c.min-next.result c.changes_of.new.state (differences c.in_ok-changes.changes.items) c.in_ok-changes.ensures.on
      c.put_changes.new.text.items (search rules) c.put_piece.new.text.items _ (c.put_piece.ensures (search rules));
  least = omega arith;
  most = omega arith;
}

pub returns-in_err-changes-clause-begun : goal.returns-in_err-changes-clause-begun
returns-in_err-changes-clause-begun g c =
    anyway c.from_residual.result _
    (begun_so_far c.args.image.now c.args.steps.now (view_to c.args.page.now.from c.args.to) c.args.page.now
    c.loop-place.place c.loop-place.state c.loop-place.text.items _ _ c.loop-place.invariant.written (omega arith)
    c.loop-place.invariant.most)

pub returns-in_err-put_changes-clause-begun : goal.returns-in_err-put_changes-clause-begun
returns-in_err-put_changes-clause-begun g c =
    anyway c.from_residual-in_err-put_changes.result _
    (begun_so_far c.args.image.now c.args.steps.now (view_to c.args.page.now.from c.args.to) c.args.page.now
    c.loop-place.place c.loop-place.state c.loop-place.text.items _ _ c.loop-place.invariant.written (omega arith)
    c.loop-place.invariant.most)

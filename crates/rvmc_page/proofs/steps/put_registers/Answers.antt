use Rattle.std.proofs.Common.{arith}
use Rattle.rvmc_page.specs.Steps.{changed_register}
use Rattle.rvmc_draw.proofs.Taken.{taken_all, taken_more}
use Rattle.rvmc_page.proofs.steps.put_registers.Goals as goal

pub loop-edit-preserved : goal.loop-edit-preserved
loop-edit-preserved c =
    taken_more changed_register c.args.edits.now c.loop-edit.edit-index _ c.args.text.now.items
    c.loop-edit.text.items c.put_register.new.text.items (omega (arith, c.loop-edit-test.true)) c.loop-edit.invariant
    c.in_ok-put_register.ensures

pub returns : goal.returns
returns c =
    taken_all changed_register c.args.edits.now c.loop-edit.edit-index c.args.text.now.items
    c.loop-edit.text.items (omega (arith, c.loop-edit-test.false)) c.loop-edit.invariant

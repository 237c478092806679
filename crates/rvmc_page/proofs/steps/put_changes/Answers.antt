use Rattle.std.proofs.Common.{◌++◌, ◌∙◌, ap, arith}
use Rattle.rvmc_draw.proofs.Taken.{taken_all, taken_more}
use Rattle.rvmc_page.proofs.Joined.{text_of, texts_of}
use Rattle.rvmc_page.proofs.steps.put_changes.Goals as goal

pub loop-change-preserved : goal.loop-change-preserved
loop-change-preserved c =
    taken_more text_of c.args.changes.now c.loop-change.change-index c.change-item.result c.args.text.now.items
    c.loop-change.text.items c.put_change.new.text.items (omega (arith, c.loop-change-test.true)) c.loop-change.invariant
    (c.in_ok-put_change.ensures ∙ ap (λ change. c.loop-change.text.items ++ text_of change) c.change-item.is)

pub returns : goal.returns
returns c =
    taken_all text_of c.args.changes.now c.loop-change.change-index c.args.text.now.items
    c.loop-change.text.items (omega (arith, c.loop-change-test.false)) c.loop-change.invariant
    ∙ ap (λ text. c.args.text.now.items ++ text) (texts_of c.args.changes.now)

use Rattle.std.proofs.Common.{◌++◌, ◌∙◌, ap, arith}
use Rattle.rvmc_page.specs.Told.{wait_entry}
use Rattle.rvmc_draw.proofs.Taken.{taken_all, taken_more}
use Rattle.rvmc_page.proofs.told.put_waits.Goals as goal

pub loop-row-preserved : goal.loop-row-preserved
loop-row-preserved c =
    taken_more wait_entry c.args.rows.now c.loop-row.row-index c.row-item.result c.args.text.now.items
    c.loop-row.text.items c.put_wait.new.text.items (omega (arith, c.loop-row-test.true)) c.loop-row.invariant
    (c.in_ok-put_wait.ensures ∙ ap (λ row. c.loop-row.text.items ++ wait_entry row) c.row-item.is)

pub returns : goal.returns
returns c =
    taken_all wait_entry c.args.rows.now c.loop-row.row-index c.args.text.now.items
    c.loop-row.text.items (omega (arith, c.loop-row-test.false)) c.loop-row.invariant

use Rattle.std.proofs.Common.{◌++◌, ◌∙◌, ap, arith}
use Rattle.rvmc_page.specs.Starts.{hart_start_text}
use Rattle.rvmc_draw.proofs.Taken.{taken_all, taken_more}
use Rattle.rvmc_page.proofs.starts.put_harts.Goals as goal

pub loop-hart-preserved : goal.loop-hart-preserved
loop-hart-preserved c =
    taken_more hart_start_text c.args.harts.now c.loop-hart.hart-index c.hart-item.result c.args.text.now.items
    c.loop-hart.text.items c.put_hart.new.text.items (omega (arith, c.loop-hart-test.true)) c.loop-hart.invariant
    (c.in_ok-put_hart.ensures ∙ ap (λ hart. c.loop-hart.text.items ++ hart_start_text hart) c.hart-item.is)

pub returns : goal.returns
returns c =
    taken_all hart_start_text c.args.harts.now c.loop-hart.hart-index c.args.text.now.items
    c.loop-hart.text.items (omega (arith, c.loop-hart-test.false)) c.loop-hart.invariant
